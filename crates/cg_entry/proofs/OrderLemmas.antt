-- A search that looks at the ends first, and a list that is a block's vector as it stands.
use Rattle.std.proofs.Common.{◌≡◌, ℕ, zero, suc, ◌+◌, ◌<◌, ◌≤◌, ◌==◌, Bool, true, false, List, ◌∷◌, length, take, get_or, None, refl, sym, ap, subst, ◌∙◌, arith, nat_lt, inl, inr, eq-eqb}
use Rattle.std.specs.Prelude.{nat_le}
use Rattle.std.specs.List.{range_with_len, AllByRecursion, AllWithin, IsAllAdjacentAnswer}
use Rattle.std.specs.List.Sorted.{IsNonDecreasingBy}
use Rattle.std.proofs.lemmas.Bool.{lt-ltb, le-ltb, leb-true, or_left, or_right, cases_order}
use Rattle.std.proofs.lemmas.List.{get_or-map}
use Rattle.std.proofs.lemmas.List.FromFn.{fill_by_all}
use Rattle.std.proofs.lemmas.List.Sorted.{IsNonDecreasingBy-from_all_adjacent}
use Rattle.cg_types.specs.Rising.{is_among}
use Rattle.cg_types.proofs.RowLemmas.{keys_lt}
use Rattle.cg_entry.specs.declared.state.State.{State}
use Rattle.cg_entry.specs.Contents.{IsState}
use Rattle.cg_entry.specs.State.{pair, pairs, listed_bytes, KeysRise, IsStateList}
use Rattle.cg_entry.specs.Versioned.{Versioned}
use Rattle.cg_entry.specs.Block.{no_state, state_at, picked, IsBlock}
use Rattle.cg_entry.proofs.StateLemmas.{pairs_rise}
use Rattle.cg_types.specs.declared.limits.TheConstants.{STATE_LIMIT}
use Rattle.cg_entry.proofs.FewLemmas.{states_few}
use Rattle.cg_entry.proofs.DeltaLemmas.{length-pairs}
use Rattle.cg_entry.proofs.BlockLemmas.{get_or_any}

-- ---- the ends of a vector

module _ (above : ℕ) (xs : List State) (rise : IsNonDecreasingBy (λ (s : State). s.version) xs) where
  -- if one is not newer, none before it is
  pub none_over : (at end : ℕ) (s : State) → end ≡ at + 1 → at < length xs → s ≡ get_or xs at s → s.version ≤ above → AllWithin (λ (t : State). nat_lt above t.version ≡ false) xs 0 end
  none_over at end s is within here le k d lo lt =
      let same : get_or xs at d ≡ s = get_or_any xs at d s within ∙ sym here in
      let top : (get_or xs at d).version ≤ above = subst (λ (t : State). t.version ≤ above) (sym same) le in
      le-ltb above (get_or xs k d).version (omega (arith, top, rise k at d (omega arith) within))

  -- if one is newer, each behind it is
  pub each_over : (at : ℕ) (s : State) → at < length xs → s ≡ get_or xs at s → above < s.version → AllWithin (λ (t : State). nat_lt above t.version ≡ true) xs at (length xs)
  each_over at s within here over k d lo lt =
      let same : get_or xs at d ≡ s = get_or_any xs at d s within ∙ sym here in
      let low : above < (get_or xs at d).version = subst (λ (t : State). above < t.version) (sym same) over in
      lt-ltb above (get_or xs k d).version (omega (arith, low, rise at k d lo lt))

-- ---- the first places

pub take_range : (a n k : ℕ) → k ≤ n → take k (range_with_len a n) ≡ range_with_len a k
take_range a n zero le = refl
take_range a zero (suc k) le = absurd (omega arith)
take_range a (suc n) (suc k) le = ap (λ (xs : List ℕ). a ∷ xs) (take_range (a + 1) n k (omega arith))

pub range_within : (n a k : ℕ) → a + k ≤ n → AllByRecursion (λ p. p < n) (range_with_len a k)
range_within n a zero le = tt
range_within n a (suc k) le = (omega arith, range_within n (a + 1) k (omega arith))

pub range_among : (a k i : ℕ) → a ≤ i → i < a + k → is_among (range_with_len a k) i ≡ true
range_among a zero i lo hi = absurd (omega arith)
range_among a (suc k) i lo hi =
    elim (cases_order a i) [
      | inl same ↦ or_left (a == i) (is_among (range_with_len (a + 1) k) i) (eq-eqb a i same)
      | inr (inl before) ↦ or_right (a == i) (is_among (range_with_len (a + 1) k) i) (range_among (a + 1) k i (omega arith) (omega arith))
      | inr (inr behind) ↦ absurd (omega arith)
    ]

-- ---- versions that do not fall as the keys rise

no_false : false ≡ true → ⊥
no_false e = cc

pub versions_stay : (xs : List State) (r : Bool) → IsAllAdjacentAnswer (λ (x y : State) b. b ≡ nat_le x.version y.version) xs r → r ≡ true → IsNonDecreasingBy (λ (s : State). s.version) xs
versions_stay xs true all _ = IsNonDecreasingBy-from_all_adjacent (λ (s : State). s.version) xs (λ k d lt. leb-true _ _ (sym (all k d lt)))
versions_stay xs false some same = absurd (no_false same)

pub few_listed : (xs : List State) (bytes : ℕ) → IsStateList xs bytes → length xs ≤ STATE_LIMIT
few_listed xs bytes listed = omega (arith, states_few IsState (λ e is. is.key) (pairs xs) listed.valid (pairs_rise xs listed.rise), length-pairs xs)

pub picked_first : (xs : List State) → picked xs (range_with_len 0 (length xs)) ≡ xs
picked_first xs = sym (fill_by_all (state_at xs) xs (length xs) no_state refl (λ k lt. refl))

module _ (xs : List State) (bytes : ℕ) (listed : IsStateList xs bytes) (versions : IsNonDecreasingBy (λ (s : State). s.version) xs) where
  keys_at : (i j : ℕ) → i < j → j < length xs → (state_at xs i).key < (state_at xs j).key
  keys_at i j lt hi =
      let e : ℕ × Versioned = pair no_state in
      let less = keys_lt None (pairs xs) (pairs_rise xs listed.rise) i j e lt (omega (arith, hi, length-pairs xs)) in
      let low : get_or (pairs xs) i e ≡ pair (state_at xs i) = get_or-map pair xs i no_state e (omega arith) in
      let high : get_or (pairs xs) j e ≡ pair (state_at xs j) = get_or-map pair xs j no_state e hi in
      subst (λ (x : ℕ × Versioned). x.0 < (state_at xs j).key) low (subst (λ (y : ℕ × Versioned). (get_or (pairs xs) i e).0 < y.0) high less)

  pub block_first : IsBlock xs (range_with_len 0 (length xs)) bytes
  block_first = record {
    risen = record { versions = versions; keys = λ i j lt hi same. keys_at i j lt hi };
    rise = subst (λ (ys : List State). KeysRise ys) (sym (picked_first xs)) listed.rise;
    within = range_within (length xs) 0 (length xs) (omega arith);
    whole = λ i lt. range_among 0 (length xs) i (omega arith) (omega arith);
    valid = subst (λ (ys : List State). AllByRecursion IsState (pairs ys)) (sym (picked_first xs)) listed.valid;
    counted = listed.counted ∙ ap (λ (ys : List State). listed_bytes ys) (sym (picked_first xs));
  }
