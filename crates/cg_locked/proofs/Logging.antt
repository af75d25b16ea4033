-- The steps of the log keep its rule.
use Rattle.std.proofs.Common.{◌≡◌, ℕ, zero, suc, ◌+◌, ◌*◌, ◌<◌, ◌≤◌, ◌==◌, Bool, true, false, List, [], ◌∷◌, ◌++◌, length, refl, ap, sym, ◌∙◌, subst, arith, inl, length-append, append_assoc, None}
use Rattle.std.specs.Prelude.{slice_index_or, slice_set, replicate}
use Rattle.std.proofs.lemmas.List.{append-nil, length-replicate, replicate_more}
use Rattle.std.proofs.lemmas.Bool.Decides.{nat_tests}
use mathlib.Core.List.{IsPrefix}
use prog.Atomic.{either}
use Rattle.logbook.specs.Pages.{Cell, cell, keeps, gives, adds, no_nib, step, Moves, Goes, Away}
use Rattle.cg_views.proofs.Beginnings.{whole_begins}
use Rattle.cg_locked.specs.Log.{places, cells_of, IsKept, place_behind, Prepares, Adds}

-- ---- places

two_more : (k : ℕ) → k + 2 ≡ suc (suc k)
two_more k = omega arith

-- a place that is not at home lies behind all records
away_behind : (count ready k : ℕ) → (slice_index_or (places ready count) k (0, false)).1 ≡ false → count ≤ k
away_behind zero ready k is = omega arith
away_behind (suc count) ready zero is = absurd cc
away_behind (suc count) ready (suc k) is = let rest = away_behind count ready k is in omega arith

place_is_behind : (count ready k : ℕ) → (cell (cells_of ready count) (k + 2)).1 ≡ false → count ≤ k
place_is_behind count ready k is = away_behind count ready k (subst (λ (j : ℕ). (cell (cells_of ready count) j).1 ≡ false) (two_more k) is)

-- the first place behind all records comes home
comes_home : (count ready : ℕ) → slice_set (places (suc ready) count) count (0, true) ≡ places ready (suc count)
comes_home zero ready = refl
comes_home (suc count) ready = ap {B = List Cell} (λ cs. (0, true) ∷ cs) (comes_home count ready)

-- a place more is prepared
one_ready : (count ready : ℕ) → places ready count ++ (0, false) ∷ [] ≡ places (ready + 1) count
one_ready count ready =
    append_assoc (replicate count (0, true)) (replicate ready (0, false)) ((0, false) ∷ [])
    ∙ ap {B = List Cell} (λ cs. replicate count (0, true) ++ cs) (replicate_more {X = Cell} ready (0, false))

length-places : (count ready : ℕ) → length (places ready count) ≡ count + ready
length-places count ready =
    omega (arith, length-append (replicate {A = Cell} count (0, true)) (replicate {A = Cell} ready (0, false)), length-replicate {A = Cell} count (0, true), length-replicate {A = Cell} ready (0, false))

-- ---- steps

module _ {A : Type 0} where
  abbrev pub shown : List A → List A
  shown log = []

  abbrev pub moved : List A → List A → ℕ → Type 0
  moved xs ys n = Unit {0}

  begins_length : (xs ys : List A) → IsPrefix xs ys → length xs ≤ length ys
  begins_length xs ys p = omega (arith, sym (ap length p.1) ∙ length-append xs p.0)

  -- the words of the same records
  same_cells : (log : List A) (ready word : ℕ) → word ≡ 2 * length log + ready → ◌≡◌ {A = List Cell} ((word, true) ∷ (0, true) ∷ places ready (length log)) (cells_of ready (length (log ++ [])))
  same_cells log ready word is =
      let n : length log ≡ length (log ++ []) = ap length (sym (append-nil log)) in
      let w : word ≡ 2 * length (log ++ []) + ready = is ∙ ap (λ (k : ℕ). 2 * k + ready) n in
      (λ i. (w i, true) ∷ (0, true) ∷ places ready (n i))

  prepares_goes : (log v : List A) (e : A) (old ready : ℕ) → old ≤ 2 * length v + 1 → IsPrefix v log → (b : Bool) → (2 * length log + ready == old) ≡ b
      → Goes IsKept shown moved 0 (v, (no_nib, None)) (λ n. either (n == old) (old + 1) n) (Prepares (step 0 old (old + 1) e) (v, (no_nib, None))) (cells_of ready (length log)) log
  prepares_goes log v e old ready low pre true is =
      let here : 2 * length log + ready ≡ old = grind (arith, nat_tests) in
      let more = begins_length v log pre in
      let same : v ≡ log = whole_begins v log pre (omega arith) in
      let word : either (2 * length log + ready == old) (old + 1) (2 * length log + ready) ≡ 2 * length (log ++ []) + (ready + 1) = rw is (omega (arith, here, ap length (append-nil log))) in
      let rest : places ready (length log) ++ (0, false) ∷ [] ≡ places (ready + 1) (length (log ++ [])) = one_ready (length log) ready ∙ ap (λ (k : ℕ). places (ready + 1) k) (ap length (sym (append-nil log))) in (
        adds,
        [],
        None,
        tt,
        (ready + 1, (λ i. (word i, true) ∷ (0, true) ∷ rest i)),
        inl (refl, refl),
        rw is (append-nil log ∙ sym same, refl, omega (arith, length-places (length log) ready, here, ap length same)),
      )
  prepares_goes log v e old ready low pre false is =
      let word : either (2 * length log + ready == old) (old + 1) (2 * length log + ready) ≡ 2 * length log + ready = rw is refl in (
        keeps,
        [],
        None,
        tt,
        (ready, same_cells log ready _ word),
        inl (refl, refl),
        rw is tt,
      )

  -- whatever the book is, the step prepares a place behind all records that were seen, or finds more
  pub prepares_moves : (v : List A) (e : A) (old : ℕ) → old ≤ 2 * length v + 1
      → Moves IsKept shown moved 0 (v, (no_nib, None)) (λ n. either (n == old) (old + 1) n) (Prepares (step 0 old (old + 1) e) (v, (no_nib, None)))
  prepares_moves v e old low cs log kept pre away =
      let P : List Cell → Type 0 = λ c. (0 < length c) × ((cell c 0).1 ≡ true) × Goes IsKept shown moved 0 (v, (no_nib, None)) (λ n. either (n == old) (old + 1) n) (Prepares (step 0 old (old + 1) e) (v, (no_nib, None))) c log in
      subst P (sym kept.1) (omega arith, refl, prepares_goes log v e old kept.0 low pre (2 * length log + kept.0 == old) refl)

  adds_goes : (log v : List A) (e : A) (old ready : ℕ) → old ≡ 2 * length v + 2 → IsPrefix v log → length log ≤ length v → (b : Bool) → (2 * length log + ready == old) ≡ b
      → Goes IsKept shown moved 0 (v, (place_behind v, None)) (λ n. either (n == old) (old + 1) n) (Adds (step 0 old (old + 1) e) (v, (place_behind v, None))) (cells_of ready (length log)) log
  adds_goes log v e old ready at pre few true is =
      let here : 2 * length log + ready ≡ old = grind (arith, nat_tests) in
      let same : v ≡ log = whole_begins v log pre few in
      let both : ready ≡ suc 1 = omega (arith, here, at, ap length same) in
      let key : length v + 2 ≡ suc (suc (length log)) = omega (arith, ap length same) in
      let long : suc (length log) ≡ length (log ++ e ∷ []) = omega (arith, length-append log (e ∷ [])) in
      let w = either (2 * length log + ready == old) (old + 1) (2 * length log + ready) in
      let word : w ≡ 2 * length (log ++ e ∷ []) + 1 = rw is (omega (arith, long, at, ap length same)) in
      let home : slice_set (places ready (length log)) (length log) (0, true) ≡ places 1 (length (log ++ e ∷ [])) =
      ap (λ (r : ℕ). slice_set (places r (length log)) (length log) (0, true)) both ∙ comes_home (length log) 1 ∙ ap (λ (k : ℕ). places 1 k) long in
      let all : slice_set ((w, true) ∷ (0, true) ∷ places ready (length log)) (length v + 2) (0, true) ≡ cells_of 1 (length (log ++ e ∷ [])) =
      ap (λ (k : ℕ). slice_set ((w, true) ∷ (0, true) ∷ places ready (length log)) k (0, true)) key ∙ (λ i. (word i, true) ∷ (0, true) ∷ home i) in (
        gives,
        e ∷ [],
        None,
        refl,
        (1, all),
        inl (refl, refl),
        rw is (ap (λ l. l ++ e ∷ []) (sym same)),
      )
  adds_goes log v e old ready at pre few false is =
      let same : v ≡ log = whole_begins v log pre few in
      let word : either (2 * length log + ready == old) (old + 1) (2 * length log + ready) ≡ 2 * length log + ready = rw is refl in (
        keeps,
        [],
        None,
        tt,
        (ready, same_cells log ready _ word),
        inl (refl, refl),
        rw is (append-nil log ∙ sym same, refl),
      )

  -- whatever the book is, the step adds the record in the place behind all that were seen, or leaves the place
  pub adds_moves : (v : List A) (e : A) (old : ℕ) → old ≡ 2 * length v + 2
      → Moves IsKept shown moved 0 (v, (place_behind v, None)) (λ n. either (n == old) (old + 1) n) (Adds (step 0 old (old + 1) e) (v, (place_behind v, None)))
  adds_moves v e old at cs log kept pre away =
      let P : List Cell → Type 0 = λ c. Away (place_behind v) c → (0 < length c) × ((cell c 0).1 ≡ true) × Goes IsKept shown moved 0 (v, (place_behind v, None)) (λ n. either (n == old) (old + 1) n) (Adds (step 0 old (old + 1) e) (v, (place_behind v, None))) c log in
      let here : P (cells_of kept.0 (length log)) =
      λ a. (omega arith, refl, adds_goes log v e old kept.0 at pre (place_is_behind (length log) kept.0 (length v) (a refl).1) (2 * length log + kept.0 == old) refl) in
      subst P (sym kept.1) here away
