-- Each record that is kept has a receipt if confirmed receipts are as many as these; more there are not.
use Rattle.std.proofs.Common.{◌≡◌, ◌≢◌, ℕ, zero, suc, ◌-◌, ◌<◌, ◌≤◌, Bool, true, false, cond, List, [], ◌∷◌, length, map, Some, refl, sym, ap, ◌∙◌, subst, arith, nat_lt, eqb-true}
use Rattle.std.specs.Prelude.{◌&&◌, ◌||◌, ◌==◌, not, slice_get}
use Rattle.std.specs.List.{filter, list_all}
use Rattle.std.proofs.lemmas.Bool.{ltb-true}
use Rattle.std.proofs.lemmas.Bool.Decides.{nat_tests}
use Rattle.std.proofs.lemmas.Option.{same_Some, slice_get_within}
use Rattle.cg_types.specs.Rising.{is_among}
use Rattle.cg_types.proofs.RisingLemmas.{both, first_of, second_of}
use Rattle.cg_types.specs.ListPlace.{at_place}
use Rattle.cg_history.specs.declared.item.Item.{Item}
use Rattle.cg_history.specs.declared.item.Receipt.{Receipt}
use Rattle.cg_history.specs.Confirming.{AreConfirmed}
use Rattle.cg_history.specs.Laws.{EachRecordHasItsReceipt, AllConfirmedAreKept}
use Rattle.cg_history.proofs.Receipts.{confirmed_stand_once}

-- ---- numbers that differ

abbrev differ : List ℕ → Bool
differ [] = true
differ (x ∷ xs) = not (is_among xs x) && differ xs

abbrev below : ℕ → List ℕ → Bool
below m xs = list_all (λ x. nat_lt x m) xs

abbrev without : ℕ → List ℕ → List ℕ
without m xs = filter (λ x. not (x == m)) xs

neither : (a b : Bool) → (a || b) ≡ false → (a ≡ false) × (b ≡ false)
neither true b e = absurd cc
neither false b e = (refl, e)

either_not : (a b : Bool) → a ≡ false → b ≡ false → (a || b) ≡ false
either_not true b p q = absurd cc
either_not false b p q = q

not_true : (a : Bool) → not a ≡ true → a ≡ false
not_true true e = absurd cc
not_true false e = refl

not_false : (a : Bool) → a ≡ false → not a ≡ true
not_false true e = absurd cc
not_false false e = refl

all_left : (m : ℕ) (xs : List ℕ) → is_among xs m ≡ false → without m xs ≡ xs
all_left m [] out = refl
all_left m (x ∷ xs) out =
    let n = neither (x == m) (is_among xs m) out in
    ap (λ (b : Bool). cond (not b) (x ∷ without m xs) (without m xs)) n.0 ∙ ap (λ l. x ∷ l) (all_left m xs n.1)

at_most_one : (m : ℕ) (xs : List ℕ) → differ xs ≡ true → length xs ≤ suc (length (without m xs))
at_most_one m [] d = omega arith
at_most_one m (x ∷ xs) d = by (at_most_one m xs (second_of (not (is_among xs x)) (differ xs) d)) (x == m) refl
  where
    by : length xs ≤ suc (length (without m xs)) → (b : Bool) → (x == m) ≡ b → length (x ∷ xs) ≤ suc (length (cond (not b) (x ∷ without m xs) (without m xs)))
    by rest true is =
        let out : is_among xs m ≡ false = ap (is_among xs) (sym (eqb-true x m is)) ∙ not_true (is_among xs x) (first_of (not (is_among xs x)) (differ xs) d) in
        let same : length (without m xs) ≡ length xs = ap length (all_left m xs out) in
        omega (arith, same)
    by rest false is = omega (arith, rest)

still_out : (m x : ℕ) (xs : List ℕ) → is_among xs x ≡ false → is_among (without m xs) x ≡ false
still_out m x [] out = refl
still_out m x (y ∷ ys) out = let n = neither (y == x) (is_among ys x) out in by (still_out m x ys n.1) n.0 (y == m)
  where
    by : is_among (without m ys) x ≡ false → (y == x) ≡ false → (b : Bool) → is_among (cond (not b) (y ∷ without m ys) (without m ys)) x ≡ false
    by rest here true = rest
    by rest here false = either_not (y == x) (is_among (without m ys) x) here rest

still_differ : (m : ℕ) (xs : List ℕ) → differ xs ≡ true → differ (without m xs) ≡ true
still_differ m [] d = refl
still_differ m (x ∷ xs) d = by (still_differ m xs (second_of (not (is_among xs x)) (differ xs) d)) (x == m)
  where
    by : differ (without m xs) ≡ true → (b : Bool) → differ (cond (not b) (x ∷ without m xs) (without m xs)) ≡ true
    by rest true = rest
    by rest false = both (not (is_among (without m xs) x)) (differ (without m xs)) (not_false (is_among (without m xs) x) (still_out m x xs (not_true (is_among xs x) (first_of (not (is_among xs x)) (differ xs) d)))) rest

lower : (x m : ℕ) → nat_lt x (suc m) ≡ true → (x == m) ≡ false → nat_lt x m ≡ true
lower x m lt other = grind (arith, nat_tests)

still_below : (m : ℕ) (xs : List ℕ) → below (suc m) xs ≡ true → below m (without m xs) ≡ true
still_below m [] lt = refl
still_below m (x ∷ xs) lt = by (still_below m xs (second_of (nat_lt x (suc m)) (below (suc m) xs) lt)) (x == m) refl
  where
    by : below m (without m xs) ≡ true → (b : Bool) → (x == m) ≡ b → below m (cond (not b) (x ∷ without m xs) (without m xs)) ≡ true
    by rest true is = rest
    by rest false is = both (nat_lt x m) (below m (without m xs)) (lower x m (first_of (nat_lt x (suc m)) (below (suc m) xs) lt) is) rest

-- numbers below m that differ are at most m
few : (m : ℕ) (xs : List ℕ) → differ xs ≡ true → below m xs ≡ true → length xs ≤ m
few zero [] d lt = omega arith
few zero (x ∷ xs) d lt = absurd (let less : x < 0 = ltb-true x 0 (first_of (nat_lt x 0) (below 0 xs) lt) in omega (arith, less))
few (suc m) xs d lt =
    let one = at_most_one m xs d in
    let rest = few m (without m xs) (still_differ m xs d) (still_below m xs lt) in
    omega (arith, one, rest)

-- ---- the places of receipts

-- the places of their records among those that are kept, from 1
abbrev places : ℕ → List Receipt → List ℕ
places folded rs = map (λ r. r.number - folded) rs

at_number : (folded : ℕ) (rs : List Receipt) (k a : ℕ) → slice_get (places folded rs) k ≡ Some a → (r : Receipt) × (slice_get rs k ≡ Some r) × (r.number - folded ≡ a)
at_number folded [] k a is = absurd cc
at_number folded (r ∷ rs) zero a is = (r, refl, same_Some (r.number - folded) a is)
at_number folded (r ∷ rs) (suc k) a is = at_number folded rs k a is

among_at : (xs : List ℕ) (x : ℕ) → is_among xs x ≡ true → (k : ℕ) × (slice_get xs k ≡ Some x)
among_at [] x is = absurd cc
among_at (y ∷ ys) x is = by (among_at ys x) (y == x) refl is
  where
    by : (is_among ys x ≡ true → (k : ℕ) × (slice_get ys k ≡ Some x)) → (b : Bool) → (y == x) ≡ b → (b || is_among ys x) ≡ true → (k : ℕ) × (slice_get (y ∷ ys) k ≡ Some x)
    by rest true here at = (0, ap Some (eqb-true y x here))
    by rest false here at = let r = rest at in (suc r.0, r.1)

abbrev Apart : List ℕ → Type 0
Apart xs = (i j a b : ℕ) → slice_get xs i ≡ Some a → slice_get xs j ≡ Some b → i < j → a ≢ b

out_of : (xs : List ℕ) (x : ℕ) (b : Bool) → is_among xs x ≡ b → ((k : ℕ) → slice_get xs k ≢ Some x) → is_among xs x ≡ false
out_of xs x true is none = let at = among_at xs x is in absurd (none at.0 at.1)
out_of xs x false is none = is

differ_of : (xs : List ℕ) → Apart xs → differ xs ≡ true
differ_of [] apart = refl
differ_of (x ∷ xs) apart =
    both (not (is_among xs x)) (differ xs) (not_false (is_among xs x) (out_of xs x (is_among xs x) refl (λ k is. apart 0 (suc k) x x refl is (omega arith) refl)))
    (differ_of xs (λ i j a b at_i at_j less. apart (suc i) (suc j) a b at_i at_j (omega (arith, less))))

below_of : (m : ℕ) (xs : List ℕ) → ((k a : ℕ) → slice_get xs k ≡ Some a → nat_lt a m ≡ true) → below m xs ≡ true
below_of m [] each = refl
below_of m (x ∷ xs) each = both (nat_lt x m) (below m xs) (each 0 x refl) (below_of m xs (λ k a is. each (suc k) a is))

placed : (records : List Item) (number : ℕ) (i : Item) → at_place records number ≡ Some i → (0 < number) × (nat_lt number (suc (length records)) ≡ true)
placed records zero i is = absurd cc
placed records (suc k) i is = let within = slice_get_within records k i is in ((omega arith), grind (arith, nat_tests))

module _ (folded : ℕ) (records : List Item) (receipts : List Receipt) (all : AreConfirmed folded records receipts) where
  in_range : (k a : ℕ) → slice_get (places folded receipts) k ≡ Some a → (0 < a) × (nat_lt a (suc (length records)) ≡ true)
  in_range k a is =
      let at = at_number folded receipts k a is in
      let p = placed records (at.0.number - folded) (all k at.0 at.1).stands.0 (all k at.0 at.1).stands.1 in
      subst (λ n. (0 < n) × (nat_lt n (suc (length records)) ≡ true)) at.2 p

  places_apart : Apart (places folded receipts)
  places_apart i j a b at_i at_j less same =
      let p = at_number folded receipts i a at_i in
      let q = at_number folded receipts j b at_j in
      let first = (in_range i a at_i).0 in
      let one : p.0.number ≡ q.0.number = omega (arith, p.2, q.2, same, first) in
      confirmed_stand_once folded records receipts i j p.0 q.0 all p.1 q.1 less one

  length_places : (rs : List Receipt) → length (places folded rs) ≡ length rs
  length_places [] = refl
  length_places (r ∷ rs) = ap suc (length_places rs)

  zero_out : is_among (places folded receipts) 0 ≡ false
  zero_out = out_of (places folded receipts) 0 (is_among (places folded receipts) 0) refl (λ k is. absurd (let r = in_range k 0 is in let l = r.0 in omega arith))

  none_twice : differ (0 ∷ places folded receipts) ≡ true
  none_twice = both (not (is_among (places folded receipts) 0)) (differ (places folded receipts)) (not_false (is_among (places folded receipts) 0) zero_out) (differ_of (places folded receipts) places_apart)

  all_below : below (suc (length records)) (0 ∷ places folded receipts) ≡ true
  all_below = both (nat_lt 0 (suc (length records))) (below (suc (length records)) (places folded receipts)) (grind (arith, nat_tests)) (below_of (suc (length records)) (places folded receipts) (λ k a is. (in_range k a is).1))

  -- confirmed receipts are at most as many as the records that are kept
  pub few_confirmed : length receipts ≤ length records
  few_confirmed =
      let most = few (suc (length records)) (0 ∷ places folded receipts) none_twice all_below in
      omega (arith, most, length_places receipts)

  covered : length receipts ≡ length records → (n : ℕ) → n < length records → (b : Bool) → is_among (places folded receipts) (suc n) ≡ b → is_among (places folded receipts) (suc n) ≡ true
  covered many n less true is = is
  covered many n less false is =
      let xs = places folded receipts in
      let whole : differ (suc n ∷ 0 ∷ xs) ≡ true = both (not (is_among (0 ∷ xs) (suc n))) (differ (0 ∷ xs)) (not_false (is_among (0 ∷ xs) (suc n)) (either_not (0 == suc n) (is_among xs (suc n)) (grind (arith, nat_tests)) is)) none_twice in
      let here : nat_lt (suc n) (suc (length records)) ≡ true = grind (arith, nat_tests) in
      let lower : below (suc (length records)) (suc n ∷ 0 ∷ xs) ≡ true = both (nat_lt (suc n) (suc (length records))) (below (suc (length records)) (0 ∷ xs)) here all_below in
      let most = few (suc (length records)) (suc n ∷ 0 ∷ xs) whole lower in
      absurd (omega (arith, most, length_places receipts, many))

pub each_record_has_its_receipt : EachRecordHasItsReceipt
each_record_has_its_receipt folded records receipts n all many less =
    let at = among_at (places folded receipts) (suc n) (covered folded records receipts all many n less (is_among (places folded receipts) (suc n)) refl) in
    let r = at_number folded receipts at.0 (suc n) at.1 in
    (at.0, r.0, r.1, omega (arith, r.2))

pub all_confirmed_are_kept : AllConfirmedAreKept
all_confirmed_are_kept h receipts all many =
    let most = few_confirmed h.folded h.records receipts all in
    omega (arith, most, many)
