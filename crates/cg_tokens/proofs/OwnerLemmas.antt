-- Owners among lists that rise, and among rows.
use Rattle.std.proofs.Common.{◌≡◌, ℕ, zero, suc, ◌<◌, ◌≤◌, Bool, true, false, cond, ◌==◌, List, [], ◌∷◌, length, get_or, Option, Some, None, Result, Ok, Err, refl, sym, ap, ◌∙◌, arith, eq-eqb, nat_lt}
use Rattle.std.specs.Prelude.{◌||◌, is_ok, is_some, Contains}
use Rattle.std.specs.Ordering.{nat_cmp, eq_by_cmp}
use Rattle.std.specs.FinMap.Entries.{find}
use Rattle.std.specs.List.Sorted.{IsBinarySearchResult}
use Rattle.std.proofs.lemmas.Option.{same_Some}
use Rattle.std.proofs.lemmas.Bool.{ltb-true}
use Rattle.std.proofs.lemmas.Bool.Decides.{nat_tests}
use Rattle.std.proofs.lemmas.List.Folds.{list_any_none}
use Rattle.std.proofs.lemmas.List.Sorted.{searched}
use Rattle.std.proofs.lemmas.List.{get_or_default}
use Rattle.cg_types.specs.Rising.{is_among, is_past, rise_past, Rises}
use Rattle.cg_types.proofs.RisingLemmas.{first_of, second_of, same_tied}
use Rattle.cg_types.specs.Rows.{keys_of}
use Rattle.cg_entry.specs.Values.{EntryValue}

-- ---- a search by halving

above : (x : ℕ) (xs : List ℕ) → rise_past (Some x) xs ≡ true → (j : ℕ) → j < length xs → x < get_or xs j 0
above x [] rise j lt = absurd (omega arith)
above x (y ∷ ys) rise zero lt = ltb-true x y (first_of (nat_lt x y) (rise_past (Some y) ys) rise)
above x (y ∷ ys) rise (suc j) lt =
    let here = ltb-true x y (first_of (nat_lt x y) (rise_past (Some y) ys) rise) in
    let there = above y ys (second_of (nat_lt x y) (rise_past (Some y) ys) rise) j (omega arith) in
    omega arith

rising : (last : Option ℕ) (xs : List ℕ) → rise_past last xs ≡ true → (i j : ℕ) → i ≤ j → j < length xs → get_or xs i 0 ≤ get_or xs j 0
rising last [] rise i j le lt = absurd (omega arith)
rising last (x ∷ xs) rise zero zero le lt = omega arith
rising last (x ∷ xs) rise zero (suc j) le lt =
    let there = above x xs (second_of (is_past last x) (rise_past (Some x) xs) rise) j (omega arith) in
    omega arith
rising last (x ∷ xs) rise (suc i) zero le lt = absurd (omega arith)
rising last (x ∷ xs) rise (suc i) (suc j) le lt = rising (Some x) xs (second_of (is_past last x) (rise_past (Some x) xs) rise) i j (omega arith) (omega arith)

or_true : (b : Bool) → (b || true) ≡ true
or_true true = refl
or_true false = refl

among_at : (xs : List ℕ) (x i : ℕ) → i < length xs → get_or xs i 0 ≡ x → is_among xs x ≡ true
among_at [] x i lt is = absurd (omega arith)
among_at (y ∷ ys) x zero lt is = rw (eq-eqb y x is) refl
among_at (y ∷ ys) x (suc i) lt is = rw (among_at ys x i (omega arith) is) (or_true (y == x))

less_apart : (a x : ℕ) → a < x → (a == x) ≡ false
less_apart a x lt = grind (arith, nat_tests)

greater_apart : (a x : ℕ) → x < a → (a == x) ≡ false
greater_apart a x lt = grind (arith, nat_tests)

-- a search by halving tells whether an endpoint is one of owners that rise
pub halved : (owners : List ℕ) (x : ℕ) → Rises owners → (r : Result ℕ ℕ) → IsBinarySearchResult (λ y. nat_cmp y x) owners r → is_ok r ≡ is_among owners x
halved owners x rise (Ok at) is =
    let found = searched owners x (Ok at) is (rising None owners rise) in
    sym (among_at owners x at found.0 found.1)
halved owners x rise (Err at) is =
    let gap = searched owners x (Err at) is (rising None owners rise) in
    sym (list_any_none (λ y. y == x) owners (λ k d lt. ap (λ (a : ℕ). a == x) (get_or_default owners k d 0 lt) ∙ apart k lt (gap.1 k) (gap.2 k)))
  where
    apart : (k : ℕ) → k < length owners → (k < at → get_or owners k 0 < x) → (at ≤ k → k < length owners → x < get_or owners k 0) → (get_or owners k 0 == x) ≡ false
    apart k lt less greater = grind (arith, nat_tests)

-- ---- the row of an owner

other_owner : (x y : ℕ) → eq_by_cmp nat_cmp x y ≡ false → (y == x) ≡ false
other_owner x y e = grind (arith, nat_tests)

-- an owner is one of rows exactly if its row is found
pub among_found : (k : ℕ) (rows : List (ℕ × EntryValue)) → is_among (keys_of rows) k ≡ is_some (find nat_cmp k rows)
among_found k [] = refl
among_found k (r ∷ rs) = by (eq_by_cmp nat_cmp k r.0) refl (among_found k rs)
  where
    by : (b : Bool) → eq_by_cmp nat_cmp k r.0 ≡ b → is_among (keys_of rs) k ≡ is_some (find nat_cmp k rs) → ((r.0 == k) || is_among (keys_of rs) k) ≡ is_some (cond b (Some r.1) (find nat_cmp k rs))
    by true tie rest = rw (eq-eqb r.0 k (sym (same_tied k r.0 tie))) refl
    by false other rest = rw (other_owner k r.0 other) rest

-- a row that is found is one of the rows
pub row_found : (k : ℕ) (e : EntryValue) (rows : List (ℕ × EntryValue)) → find nat_cmp k rows ≡ Some e → Contains rows (k, e)
row_found k e [] is = absurd cc
row_found k e (r ∷ rs) is = by (eq_by_cmp nat_cmp k r.0) refl is (row_found k e rs)
  where
    by : (b : Bool) → eq_by_cmp nat_cmp k r.0 ≡ b → cond b (Some r.1) (find nat_cmp k rs) ≡ Some e → (find nat_cmp k rs ≡ Some e → Contains rs (k, e)) → Contains (r ∷ rs) (k, e)
    by true tie here more = (0, omega arith, λ i. (sym (same_tied k r.0 tie) i, same_Some r.1 e here i))
    by false other there more = let at = more there in let less = at.1 in (suc at.0, omega arith, at.2)
