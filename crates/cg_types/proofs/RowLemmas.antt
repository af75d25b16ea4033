-- Rows that rise: a search among them, and the rows around a key.
use Rattle.std.proofs.Common.{◌≡◌, ℕ, zero, suc, ◌+◌, ◌-◌, ◌<◌, ◌≤◌, Bool, true, false, List, [], ◌∷◌, length, take, drop, get_or, Option, Some, None, Result, Ok, Err, IfOk, IfErr, length-drop, refl, sym, ap, arith, nat_lt}
use Rattle.std.specs.List.{filter, AllWithin}
use Rattle.std.specs.List.Sorted.{IsSearchInRange, IsBinarySearchResult, IsNonDecreasingBy}
use Rattle.std.specs.Ordering.{nat_cmp, eq_by_cmp, ordering_index}
use Rattle.std.specs.FinMap.Entries.{find}
use Rattle.std.proofs.lemmas.List.{take_all}
use Rattle.std.proofs.lemmas.Cmp.{ranked}
use Rattle.std.proofs.lemmas.Bool.{ltb-true, lt-ltb, le-ltb}
use Rattle.std.proofs.lemmas.Bool.Decides.{nat_tests}
use Rattle.cg_types.specs.Rising.{is_past, rise_past, Rises}
use Rattle.cg_types.proofs.RisingLemmas.{rise_earlier, first_of, second_of, same_tied}
use Rattle.cg_types.specs.Rows.{keys_of, before, after, IsRowAt, IsGapAt}

differs : (k x : ℕ) → (k ≡ x → ⊥) → (b : Bool) → eq_by_cmp nat_cmp k x ≡ b → b ≡ false
differs k x ne true e = absurd (ne (same_tied k x e))
differs k x ne false e = refl

ties : (k x : ℕ) → x ≡ k → eq_by_cmp nat_cmp k x ≡ true
ties k x same = rw same (grind (arith, nat_tests))

module _ {X : Type 0} where
  -- all after the first are greater than all that the first is greater than
  pub later : (x : ℕ) (rs : List (ℕ × X)) → rise_past (Some x) (keys_of rs) ≡ true → AllWithin (λ r. x < r.0) rs 0 (length rs)
  later x [] h k d lo hi = absurd (omega arith)
  later x (r ∷ rs) h zero d lo hi = ltb-true x r.0 (first_of (nat_lt x r.0) (rise_past (Some r.0) (keys_of rs)) h)
  later x (r ∷ rs) h (suc k) d lo hi =
      let lt = first_of (nat_lt x r.0) (rise_past (Some r.0) (keys_of rs)) h in
      let rest = second_of (nat_lt x r.0) (rise_past (Some r.0) (keys_of rs)) h in
      later x rs (rise_earlier (Some x) r.0 (keys_of rs) lt rest) k d (omega arith) (omega arith)

  pub keys_lt : (last : Option ℕ) (rs : List (ℕ × X)) → rise_past last (keys_of rs) ≡ true → (i j : ℕ) (d : ℕ × X) → i < j → j < length rs → (get_or rs i d).0 < (get_or rs j d).0
  keys_lt last [] h i j d lt hi = absurd (omega arith)
  keys_lt last (r ∷ rs) h i zero d lt hi = absurd (omega arith)
  keys_lt last (r ∷ rs) h zero (suc j) d lt hi = later r.0 rs (second_of (is_past last r.0) (rise_past (Some r.0) (keys_of rs)) h) j d (omega arith) (omega arith)
  keys_lt last (r ∷ rs) h (suc i) (suc j) d lt hi = keys_lt (Some r.0) rs (second_of (is_past last r.0) (rise_past (Some r.0) (keys_of rs)) h) i j d (omega arith) (omega arith)

  -- the comparisons with k rise along the rows, as a binary search requires
  comparisons_rise : (k : ℕ) (rs : List (ℕ × X)) → Rises (keys_of rs) → IsNonDecreasingBy (λ r. ordering_index (nat_cmp r.0 k)) rs
  comparisons_rise k rs h i j d le hi =
      let keys_rise : (get_or rs i d).0 ≤ (get_or rs j d).0 = grind (arith, keys_lt None rs h i j d, λ (same : i ≡ j). ap (λ (n : ℕ). (get_or rs n d).0) same) in
      grind (arith, nat_tests)

  -- a binary search by key ends at the key, or at the gap for it
  pub searched : (k : ℕ) (rs : List (ℕ × X)) → Rises (keys_of rs) → (r : Result ℕ ℕ) → IsSearchInRange r (length rs) → IsBinarySearchResult (λ row. nat_cmp row.0 k) rs r → record { found : IfOk r (λ at. IsRowAt rs k at); absent : IfErr r (λ at. IsGapAt rs k at) }
  searched k rs h (Ok at) in_range equal = record { found = record { in_range = in_range; has_key = λ d. ranked _ k _ (sym (equal d)) }; absent = tt }
  searched k rs h (Err at) in_range parted = record {
    found = tt;
    absent = record {
      in_range = in_range;
      less_before = λ j d lo lt. ranked _ k _ (sym ((parted (comparisons_rise k rs h)).0 j d lo lt));
      greater_from = λ j d le lt. ranked _ k _ (sym ((parted (comparisons_rise k rs h)).1 j d le lt));
    };
  }

  pub filter_none : (p : ℕ × X → Bool) (rs : List (ℕ × X)) → AllWithin (λ r. p r ≡ false) rs 0 (length rs) → filter p rs ≡ []
  filter_none p [] f = refl
  filter_none p (r ∷ rs) f = let no : p r ≡ false = f 0 r (omega arith) (omega arith) in rw no (filter_none p rs (λ k d lo hi. f (suc k) d (omega arith) (omega arith)))

  pub filter_every : (p : ℕ × X → Bool) (rs : List (ℕ × X)) → AllWithin (λ r. p r ≡ true) rs 0 (length rs) → filter p rs ≡ rs
  filter_every p [] t = refl
  filter_every p (r ∷ rs) t = let yes : p r ≡ true = t 0 r (omega arith) (omega arith) in rw yes (ap (λ (xs : List (ℕ × X)). r ∷ xs) (filter_every p rs (λ k d lo hi. t (suc k) d (omega arith) (omega arith))))

  filter_front : (p : ℕ × X → Bool) (rs : List (ℕ × X)) (at : ℕ) → AllWithin (λ r. p r ≡ true) rs 0 at → AllWithin (λ r. p r ≡ false) rs at (length rs) → take at rs ≡ filter p rs
  filter_front p [] zero t f = refl
  filter_front p [] (suc at) t f = refl
  filter_front p (r ∷ rs) zero t f = sym (filter_none p (r ∷ rs) f)
  filter_front p (r ∷ rs) (suc at) t f =
      let yes : p r ≡ true = t 0 r (omega arith) (omega arith) in
      rw yes (ap (λ (xs : List (ℕ × X)). r ∷ xs) (filter_front p rs at (λ k d lo hi. t (suc k) d (omega arith) (omega arith)) (λ k d lo hi. f (suc k) d (omega arith) (omega arith))))

  filter_back : (p : ℕ × X → Bool) (rs : List (ℕ × X)) (at : ℕ) → AllWithin (λ r. p r ≡ false) rs 0 at → AllWithin (λ r. p r ≡ true) rs at (length rs) → drop at rs ≡ filter p rs
  filter_back p [] zero f t = refl
  filter_back p [] (suc at) f t = refl
  filter_back p (r ∷ rs) zero f t = sym (filter_every p (r ∷ rs) t)
  filter_back p (r ∷ rs) (suc at) f t =
      let no : p r ≡ false = f 0 r (omega arith) (omega arith) in
      rw no (filter_back p rs at (λ k d lo hi. f (suc k) d (omega arith) (omega arith)) (λ k d lo hi. t (suc k) d (omega arith) (omega arith)))

  module _ (k : ℕ) (rs : List (ℕ × X)) (at : ℕ) (h : Rises (keys_of rs)) (here : IsRowAt rs k at) where
    less_before : AllWithin (λ r. r.0 < k) rs 0 at
    less_before j d lo lt = omega (arith, keys_lt None rs h j at d lt here.in_range, here.has_key d)

    greater_after : AllWithin (λ r. k < r.0) rs (at + 1) (length rs)
    greater_after j d lo lt = omega (arith, keys_lt None rs h at j d (omega arith) lt, here.has_key d)

    at_least : AllWithin (λ r. k ≤ r.0) rs at (length rs)
    at_least j d lo lt = grind (arith, keys_lt None rs h at j d, here.has_key d, λ (same : at ≡ j). ap (λ (n : ℕ). (get_or rs n d).0) same)

    at_most : AllWithin (λ r. r.0 ≤ k) rs 0 (at + 1)
    at_most j d lo lt = grind (arith, less_before j d, here.has_key d, λ (same : at ≡ j). ap (λ (n : ℕ). (get_or rs n d).0) same)

    pub before_row : take at rs ≡ before k rs
    before_row = filter_front (λ r. nat_lt r.0 k) rs at (λ j d lo lt. lt-ltb _ k (less_before j d lo lt)) (λ j d lo lt. le-ltb _ k (at_least j d lo lt))

    pub after_row : drop (at + 1) rs ≡ after k rs
    after_row = filter_back (λ r. nat_lt k r.0) rs (at + 1) (λ j d lo lt. le-ltb k _ (at_most j d lo lt)) (λ j d lo lt. lt-ltb k _ (greater_after j d lo lt))

  module _ (k : ℕ) (rs : List (ℕ × X)) (at : ℕ) (gap : IsGapAt rs k at) where
    pub before_gap : take at rs ≡ before k rs
    before_gap = filter_front (λ r. nat_lt r.0 k) rs at (λ j d lo lt. lt-ltb _ k (gap.less_before j d lo lt)) (λ j d lo lt. let over = gap.greater_from j d lo lt in le-ltb _ k (omega arith))

    pub after_gap : drop at rs ≡ after k rs
    after_gap = filter_back (λ r. nat_lt k r.0) rs at (λ j d lo lt. let under = gap.less_before j d lo lt in le-ltb k _ (omega arith)) (λ j d lo lt. lt-ltb k _ (gap.greater_from j d lo lt))

  -- ---- the row found at a key

  pub find_absent : (k : ℕ) (rs : List (ℕ × X)) → AllWithin (λ r. k ≡ r.0 → ⊥) rs 0 (length rs) → find nat_cmp k rs ≡ None
  find_absent k [] none = refl
  find_absent k (r ∷ rs) none =
      let ne : eq_by_cmp nat_cmp k r.0 ≡ false = differs k r.0 (none 0 r (omega arith) (omega arith)) (eq_by_cmp nat_cmp k r.0) refl in
      rw ne (find_absent k rs (λ j d lo hi. none (suc j) d (omega arith) (omega arith)))

  pub find_in_gap : (k : ℕ) (rs : List (ℕ × X)) (at : ℕ) → IsGapAt rs k at → find nat_cmp k rs ≡ None
  find_in_gap k rs at gap = find_absent k rs (λ j d lo hi same. grind (arith, gap.less_before j d, gap.greater_from j d))

  pub find_at_place : (k : ℕ) (rs : List (ℕ × X)) (at : ℕ) (d : ℕ × X) → at < length rs → (get_or rs at d).0 ≡ k → AllWithin (λ r. k ≡ r.0 → ⊥) rs 0 at → find nat_cmp k rs ≡ Some (get_or rs at d).1
  find_at_place k [] at d lt same none = absurd (omega arith)
  find_at_place k (r ∷ rs) zero d lt same none = rw (ties k r.0 same) refl
  find_at_place k (r ∷ rs) (suc at) d lt same none =
      let ne : eq_by_cmp nat_cmp k r.0 ≡ false = differs k r.0 (none 0 r (omega arith) (omega arith)) (eq_by_cmp nat_cmp k r.0) refl in
      rw ne (find_at_place k rs at d (omega arith) same (λ j d lo hi. none (suc j) d (omega arith) (omega arith)))

  pub find_row : (k : ℕ) (rs : List (ℕ × X)) (at : ℕ) (d : ℕ × X) → Rises (keys_of rs) → IsRowAt rs k at → find nat_cmp k rs ≡ Some (get_or rs at d).1
  find_row k rs at d h here = find_at_place k rs at d here.in_range (here.has_key d) (λ j e lo lt same. omega (arith, keys_lt None rs h j at e lt here.in_range, here.has_key e))

  -- the value of `&rows[n..]`
  pub rest_from : (rs : List (ℕ × X)) (n : ℕ) → take (length rs - n) (drop n rs) ≡ drop n rs
  rest_from rs n = take_all (length rs - n) (drop n rs) (omega (arith, length-drop n rs))
