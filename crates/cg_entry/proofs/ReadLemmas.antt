-- Readers of a block, and a block made of a list in the order of the keys.
use Rattle.std.proofs.Common.{◌≡◌, ℕ, zero, suc, ◌+◌, ◌-◌, ◌<◌, ◌≤◌, ◌==◌, true, false, List, [], ◌∷◌, ◌++◌, map, length, take, drop, get_or, Option, Some, None, refl, sym, ap, subst, ◌∙◌, arith, nat_lt, inl, inr, eqb-true, length-drop}
use Rattle.std.specs.Prelude.{nat_le, max}
use Rattle.std.specs.List.{AllByRecursion}
use Rattle.std.specs.Ordering.{nat_cmp, is_lt}
use Rattle.std.specs.FinMap as finmap
use Rattle.std.specs.FinMap.{len-empty}
use Rattle.std.proofs.lemmas.Bool.{le-leb, ltb-true, ltb-false, le-ltb, or_cases, cases_lt}
use Rattle.std.proofs.lemmas.Bool.Decides.{nat_tests}
use Rattle.std.proofs.lemmas.List.{take_more, get_or-drop}
use Rattle.std.proofs.lemmas.List.{map-append}
use Rattle.cg_types.proofs.RowLemmas.{keys_lt}
use Rattle.cg_types.specs.Rising.{is_among, is_past, rise_past}
use Rattle.cg_types.proofs.RisingLemmas.{rise_earlier, first_of, second_of, both, from_sorted-none}
use Rattle.cg_entry.specs.declared.state.State.{State}
use Rattle.cg_entry.specs.Entry.{greatest_of, greatest, newer_than}
use Rattle.cg_entry.specs.State.{pair, pairs, value_at_key, KeysRise}
use Rattle.cg_entry.specs.Versioned.{Versioned, States}
use Rattle.cg_entry.specs.Block.{no_state, state_at, picked, lowered, IsBlock}
use Rattle.cg_entry.proofs.StateLemmas.{pairs_rise, entries-pairs, greatest-pairs}
use Rattle.cg_entry.proofs.DeltaLemmas.{greatest_over}
use Rattle.cg_entry.proofs.PutLemmas.{put_inserted}
use Rattle.cg_entry.proofs.BlockLemmas.{len-picked, read_at}
use Rattle.cg_entry.proofs.PushLemmas.{few_places, put_last}
use Rattle.cg_entry.proofs.CutLemmas.{Cut}

-- ---- the greatest version is the last one

-- a fact of the state at each place is one of each row
pub each_row : (P : ℕ × Versioned → Type 0) (xs : List State) (n : ℕ) → ((p : ℕ) → p < n → P (pair (state_at xs p))) → (ps : List ℕ) → AllByRecursion (λ p. p < n) ps → AllByRecursion P (pairs (picked xs ps))
each_row P xs n is [] all = tt
each_row P xs n is (p ∷ ps) all = (is p all.0, each_row P xs n is ps all.1)

greatest_at_most : (n m : ℕ) (es : List (ℕ × Versioned)) → n ≤ m → AllByRecursion (λ (e : ℕ × Versioned). e.1.version ≤ m) es → greatest_of n es ≤ m
greatest_at_most n m [] le all = le
greatest_at_most n m (e ∷ es) le all = let first = all.0 in greatest_at_most (max n e.1.version) m es (omega arith) all.1

greatest_holds : (xs : List State) (n i : ℕ) (ps : List ℕ) → is_among ps i ≡ true → (state_at xs i).version ≤ greatest_of n (pairs (picked xs ps))
greatest_holds xs n i [] e = absurd cc
greatest_holds xs n i (p ∷ ps) e =
    elim (or_cases (p == i) (is_among ps i) e) [
      | inl same ↦
          let is : p ≡ i = eqb-true p i same in
          let over : max n (state_at xs p).version ≤ greatest_of (max n (state_at xs p).version) (pairs (picked xs ps)) = greatest_over (max n (state_at xs p).version) (pairs (picked xs ps)) in
          subst (λ q. (state_at xs q).version ≤ greatest_of (max n (state_at xs p).version) (pairs (picked xs ps))) is (omega arith)
      | inr rest ↦ greatest_holds xs (max n (state_at xs p).version) i ps rest
    ]

pub greatest_block : (xs : List State) (ps : List ℕ) (bytes n last : ℕ) (s : State) (states : States) → IsBlock xs ps bytes → finmap.from_sorted {R = nat_cmp} (pairs (picked xs ps)) ≡ states
    → last + 1 ≡ length xs → state_at xs last ≡ s → max n s.version ≡ greatest n states
greatest_block xs ps bytes n last s states b seen is here =
    let v : ℕ = (state_at xs last).version in
    let top : greatest_of n (pairs (picked xs ps)) ≤ max n v = greatest_at_most n (max n v) (pairs (picked xs ps)) (omega arith)
    (each_row (λ (e : ℕ × Versioned). e.1.version ≤ max n v) xs (length xs) (λ p lt. let le : (state_at xs p).version ≤ v = b.risen.versions p last no_state (omega arith) (omega arith) in omega arith) ps b.within) in
    let first : n ≤ greatest_of n (pairs (picked xs ps)) = greatest_over n (pairs (picked xs ps)) in
    let holds : v ≤ greatest_of n (pairs (picked xs ps)) = greatest_holds xs n last ps (b.whole last (omega arith)) in
    let same : max n v ≡ greatest_of n (pairs (picked xs ps)) = omega arith in
    ap (λ (t : State). max n t.version) (sym here) ∙ same ∙ greatest-pairs n (picked xs ps) b.rise ∙ ap (greatest n) seen

no_places : (n : ℕ) (qs : List ℕ) → AllByRecursion (λ p. p < n) qs → n ≡ 0 → qs ≡ []
no_places n [] all is = refl
no_places n (q ∷ qs) all is = absurd (let lt = all.0 in omega arith)

pub greatest_none : (xs : List State) (ps : List ℕ) (bytes n : ℕ) (states : States) → IsBlock xs ps bytes → finmap.from_sorted {R = nat_cmp} (pairs (picked xs ps)) ≡ states → length xs ≡ 0 → n ≡ greatest n states
greatest_none xs ps bytes n states b seen none =
    let nil : ps ≡ [] = no_places (length xs) ps b.within none in
    ap (λ (qs : List ℕ). greatest_of n (pairs (picked xs qs))) (sym nil) ∙ greatest-pairs n (picked xs ps) b.rise ∙ ap (greatest n) seen

-- ---- nothing newer, and all newer

nothing_newer : (xs : List State) (ps : List ℕ) (above from : ℕ) (states : States) → Cut xs ps above from states → from ≤ length xs → nat_lt from (length xs) ≡ false → newer_than above states ≡ finmap.empty
nothing_newer xs ps above from states cut le e =
    let none : length (drop from xs) ≡ 0 = omega (arith, ltb-false from (length xs) e, length-drop from xs) in
    sym cut.view ∙ ap (λ (qs : List ℕ). finmap.from_sorted {R = nat_cmp} (pairs (picked (drop from xs) qs))) (no_places (length (drop from xs)) (lowered from ps) cut.within none) ∙ from_sorted-none

something_newer : (xs : List State) (ps : List ℕ) (above from : ℕ) (states : States) → Cut xs ps above from states → newer_than above states ≡ finmap.empty → nat_lt from (length xs) ≡ false
something_newer xs ps above from states cut none =
    elim (cases_lt from (length xs)) [
      | inl lt ↦
          let some : 1 ≤ length (lowered from ps) = few_places 1 (lowered from ps) (λ i l. cut.block.whole i (omega (arith, lt, l, length-drop from xs))) in
          let count : length (lowered from ps) ≡ finmap.len (newer_than above states) = len-picked (drop from xs) (lowered from ps) (newer_than above states) cut.block.rise cut.view in
          let zero_is : finmap.len (newer_than above states) ≡ 0 = ap finmap.len none ∙ len-empty nat_cmp Versioned in
          absurd (omega arith)
      | inr le ↦ le-ltb from (length xs) le
    ]

-- before the vector's end, something is newer
pub some_newer : (given xs : List State) (ps : List ℕ) (above from : ℕ) (states : States) → Cut xs ps above from states → given ≡ xs → from ≤ length given → (from ≡ length given → ⊥) → newer_than above states ≡ finmap.empty → ⊥
some_newer given xs ps above from states cut same le before none =
    let long : length given ≡ length xs = ap (λ (ys : List State). length ys) same in
    omega (arith, le, before, long, ltb-false from (length xs) (something_newer xs ps above from states cut none))

-- at the vector's end, nothing is newer
pub end_newer : (given xs : List State) (ps : List ℕ) (above from : ℕ) (states : States) → Cut xs ps above from states → given ≡ xs → from ≡ length given → finmap.empty ≡ newer_than above states
end_newer given xs ps above from states cut same end =
    let is : from ≡ length xs = end ∙ ap (λ (ys : List State). length ys) same in
    sym (nothing_newer xs ps above from states cut (omega arith) (le-ltb from (length xs) (omega arith)))

-- places in a vector of one state
one_place : (ys : List State) (qs : List ℕ) → length ys ≡ 1 → AllByRecursion (λ q. q < length ys) qs → KeysRise (picked ys qs) → is_among qs 0 ≡ true → qs ≡ 0 ∷ []
one_place ys [] long all rise e = absurd cc
one_place ys (q ∷ []) long all rise e = ap (λ n. n ∷ []) (omega (arith, all.0, long))
one_place ys (q ∷ r ∷ qs) long all rise e =
    let same : q ≡ r = omega (arith, all.0, all.1.0, long) in
    let less : (state_at ys q).key < (state_at ys r).key = keys_lt None (pairs (picked ys (q ∷ r ∷ qs))) (pairs_rise (picked ys (q ∷ r ∷ qs)) rise) 0 1 (pair no_state) (omega arith) (omega arith) in
    absurd (omega (arith, less, ap (λ p. (state_at ys p).key) same))

-- the last state alone is newer
pub last_newer : (given xs : List State) (ps : List ℕ) (above from : ℕ) (s : State) (states : States) → Cut xs ps above from states → given ≡ xs → from + 1 ≡ length given → s ≡ get_or given from s → finmap.from_sorted {R = nat_cmp} (pair s ∷ []) ≡ newer_than above states
last_newer given xs ps above from s states cut same last here =
    let size : from + 1 ≡ length xs = last ∙ ap (λ (ys : List State). length ys) same in
    let one : length (drop from xs) ≡ 1 = omega (arith, size, length-drop from xs) in
    let only : lowered from ps ≡ 0 ∷ [] = one_place (drop from xs) (lowered from ps) one cut.within cut.block.rise (cut.block.whole 0 (omega arith)) in
    let is : state_at (drop from xs) 0 ≡ s = get_or-drop from xs 0 no_state ∙ read_at xs (from + 0) from s (here ∙ ap (λ (ys : List State). get_or ys from s) same) (omega arith) (omega arith) in
    ap (λ (t : State). finmap.from_sorted {R = nat_cmp} (pair t ∷ [])) (sym is)
    ∙ ap (λ (qs : List ℕ). finmap.from_sorted {R = nat_cmp} (pairs (picked (drop from xs) qs))) (sym only) ∙ cut.view

lowered_none : (ps : List ℕ) → lowered 0 ps ≡ ps
lowered_none [] = refl
lowered_none (p ∷ ps) = let kept : nat_le 0 p ≡ true = le-leb 0 p (omega arith) in rw kept (λ i. (let same : p - 0 ≡ p = omega arith in same) i ∷ lowered_none ps i)

pub each_newer : (xs : List State) (ps : List ℕ) (above from : ℕ) (states : States) → Cut xs ps above from states → finmap.from_sorted {R = nat_cmp} (pairs (picked xs ps)) ≡ states → from ≡ 0 → newer_than above states ≡ states
each_newer xs ps above from states cut seen is =
    sym cut.view ∙ ap (λ n. finmap.from_sorted {R = nat_cmp} (pairs (picked (drop n xs) (lowered n ps)))) is
    ∙ ap (λ (qs : List ℕ). finmap.from_sorted {R = nat_cmp} (pairs (picked xs qs))) (lowered_none ps) ∙ seen

-- ---- a list in the order of the keys, a state at a time

take_rise : (last : Option ℕ) (i : ℕ) (ss : List State) → rise_past last (map (λ (s : State). s.key) ss) ≡ true → rise_past last (map (λ (s : State). s.key) (take i ss)) ≡ true
take_rise last zero ss h = refl
take_rise last (suc i) [] h = refl
take_rise last (suc i) (s ∷ ss) h =
    both (is_past last s.key) (rise_past (Some s.key) (map (λ (s : State). s.key) (take i ss))) (first_of (is_past last s.key) (rise_past (Some s.key) (map (λ (s : State). s.key) ss)) h)
    (take_rise (Some s.key) i ss (second_of (is_past last s.key) (rise_past (Some s.key) (map (λ (s : State). s.key) ss)) h))

past_at : (k : ℕ) (ss : List State) (i : ℕ) (d : State) → rise_past (Some k) (map (λ (s : State). s.key) ss) ≡ true → i < length ss → k < (get_or ss i d).key
past_at k [] i d h lt = absurd (omega arith)
past_at k (s ∷ ss) zero d h lt = ltb-true k s.key (first_of (nat_lt k s.key) (rise_past (Some s.key) (map (λ (s : State). s.key) ss)) h)
past_at k (s ∷ ss) (suc i) d h lt =
    let here = first_of (nat_lt k s.key) (rise_past (Some s.key) (map (λ (s : State). s.key) ss)) h in
    past_at k ss i d (rise_earlier (Some k) s.key (map (λ (s : State). s.key) ss) here (second_of (nat_lt k s.key) (rise_past (Some s.key) (map (λ (s : State). s.key) ss)) h)) (omega arith)

before_at : (last : Option ℕ) (ss : List State) (i : ℕ) (d : State) → rise_past last (map (λ (s : State). s.key) ss) ≡ true → i < length ss → AllByRecursion (λ (e : ℕ × Versioned). e.0 < (get_or ss i d).key) (pairs (take i ss))
before_at last ss zero d h lt = tt
before_at last [] (suc i) d h lt = absurd (omega arith)
before_at last (s ∷ ss) (suc i) d h lt =
    let rest = second_of (is_past last s.key) (rise_past (Some s.key) (map (λ (s : State). s.key) ss)) h in
    (past_at s.key ss i d rest (omega arith), before_at (Some s.key) ss i d rest (omega arith))

module _ (ss : List State) (i : ℕ) (s : State) (rise : KeysRise ss) (lt : i < length ss) (is : s ≡ get_or ss i s) where
  front_rises : KeysRise (take i ss)
  front_rises = take_rise None i ss rise

  before_next : AllByRecursion (λ (e : ℕ × Versioned). e.0 < s.key) (pairs (take i ss))
  before_next = subst (λ (t : State). AllByRecursion (λ (e : ℕ × Versioned). e.0 < t.key) (pairs (take i ss))) (sym is) (before_at None ss i s rise lt)

  pub next_past : (states : States) → states ≡ finmap.from_sorted {R = nat_cmp} (pairs (take i ss)) → AllByRecursion (λ (e : ℕ × Versioned). e.0 < s.key) (finmap.entries states)
  next_past states so_far =
      subst (λ es. AllByRecursion (λ (e : ℕ × Versioned). e.0 < s.key) es) (sym (ap finmap.entries so_far ∙ entries-pairs (take i ss) front_rises)) before_next

  pub next_put : (states : States) → states ≡ finmap.from_sorted {R = nat_cmp} (pairs (take i ss)) → finmap.insert states s.key (value_at_key s) ≡ finmap.from_sorted {R = nat_cmp} (pairs (take (i + 1) ss))
  next_put states so_far =
      let more : take (i + 1) ss ≡ take i ss ++ s ∷ [] = take_more ss i s lt ∙ ap (λ (t : State). take i ss ++ t ∷ []) (sym is) in
      sym (put_inserted s.key (value_at_key s) (take i ss) (take i ss) (take (i + 1) ss) states refl front_rises (sym so_far)
      (ap (λ (xs : List State). pairs xs) more ∙ map-append pair (take i ss) (s ∷ []) ∙ sym (put_last s.key (value_at_key s) (pairs (take i ss)) before_next)))

pub last_place : (n : ℕ) → (n == 0) ≡ false → (n - 1) + 1 ≡ n
last_place n e = grind (arith, nat_tests)

-- the last state, as it is read of a list that is the vector
pub greatest_last : (given xs : List State) (ps : List ℕ) (bytes n : ℕ) (s : State) (states : States) → IsBlock xs ps bytes → finmap.from_sorted {R = nat_cmp} (pairs (picked xs ps)) ≡ states
    → given ≡ xs → (length given == 0) ≡ false → s ≡ get_or given (length given - 1) s → max n s.version ≡ greatest n states
greatest_last given xs ps bytes n s states b seen same some is =
    let one : (length given - 1) + 1 ≡ length xs = last_place (length given) some ∙ ap (λ (ys : List State). length ys) same in
    let here : s ≡ get_or xs (length given - 1) s = is ∙ ap (λ (ys : List State). get_or ys (length given - 1) s) same in
    greatest_block xs ps bytes n (length given - 1) s states b seen one (read_at xs (length given - 1) (length given - 1) s here refl (omega arith))

-- ---- all are older

pub all_older : (xs : List State) (ps : List ℕ) (bytes v : ℕ) (states : States) → IsBlock xs ps bytes → finmap.from_sorted {R = nat_cmp} (pairs (picked xs ps)) ≡ states → ((p : ℕ) → p < length xs → (state_at xs p).version < v)
    → AllByRecursion (λ (e : ℕ × Versioned). e.1.version < v) (finmap.entries states)
all_older xs ps bytes v states b seen older =
    subst (λ es. AllByRecursion (λ (e : ℕ × Versioned). e.1.version < v) es) (sym (entries-pairs (picked xs ps) b.rise) ∙ ap finmap.entries seen)
    (each_row (λ (e : ℕ × Versioned). e.1.version < v) xs (length xs) older ps b.within)

pub older_than : (xs : List State) (ps : List ℕ) (bytes v last : ℕ) (s : State) (states : States) → IsBlock xs ps bytes → finmap.from_sorted {R = nat_cmp} (pairs (picked xs ps)) ≡ states
    → last + 1 ≡ length xs → state_at xs last ≡ s → s.version < v → AllByRecursion (λ (e : ℕ × Versioned). e.1.version < v) (finmap.entries states)
older_than xs ps bytes v last s states b seen is here lt =
    let top : (state_at xs last).version < v = subst (λ (t : State). t.version < v) (sym here) lt in
    all_older xs ps bytes v states b seen (λ p l. omega (arith, top, b.risen.versions p last no_state (omega arith) (omega arith)))

pub is_less : (x y : ℕ) → is_lt (nat_cmp x y) ≡ true → x < y
is_less x y e = grind (arith, nat_tests)

pub not_less : (x y : ℕ) → is_lt (nat_cmp x y) ≡ false → y ≤ x
not_less x y e = grind (arith, nat_tests)

pub some_of : (given xs : List State) → given ≡ xs → (length given == 0) ≡ false → 0 < length xs
some_of given xs same some =
    let long : length given ≡ length xs = ap (λ (ys : List State). length ys) same in
    grind (arith, nat_tests)
