-- The end of the vector, and the places that are left.
use Rattle.std.proofs.Common.{◌≡◌, ℕ, ◌+◌, ◌-◌, ◌^◌, ◌<◌, ◌≤◌, ◌==◌, true, false, cond, List, [], ◌∷◌, map, length, drop, get_or, refl, sym, ap, subst, ◌∙◌, arith, nat_lt, inl, inr, eqb-true, eq-eqb, length-drop}
use Rattle.std.specs.Prelude.{nat_le}
use Rattle.std.specs.List.{filter, AllByRecursion, AllWithin}
use Rattle.std.specs.Ordering.{nat_cmp}
use Rattle.std.specs.FinMap as finmap
use Rattle.std.proofs.lemmas.Bool.{leb-true, lt-leb, le-leb, or_cases, or_left, or_right, cases_lt}
use Rattle.std.proofs.lemmas.List.{get_or-drop}
use Rattle.std.proofs.lemmas.List.Sorted.{IsNonDecreasingBy-drop}
use Rattle.cg_types.specs.Rising.{is_among}
use Rattle.cg_entry.specs.declared.state.State.{State}
use Rattle.cg_entry.specs.Contents.{IsState}
use Rattle.cg_entry.specs.Entry.{newer_than, text_size}
use Rattle.cg_entry.specs.State.{pairs, listed_bytes, KeysRise}
use Rattle.cg_entry.specs.Versioned.{States}
use Rattle.cg_entry.proofs.StateLemmas.{newer, newer_rise, newer_than-pairs}
use Rattle.cg_entry.proofs.ContentLemmas.{newer_valid}
use Rattle.cg_entry.proofs.FewLemmas.{bytes_few}
use Rattle.cg_types.specs.declared.limits.TheConstants.{STATE_LIMIT}
use Rattle.std.proofs.lemmas.List.Sums.{sum_by-cons}
use Rattle.cg_entry.proofs.StateLemmas.{pairs_rise}
use Rattle.cg_entry.proofs.FewLemmas.{states_few}
use Rattle.cg_entry.proofs.BlockLemmas.{length-rows}
use Rattle.cg_entry.proofs.PushLemmas.{few_places}
use Rattle.cg_entry.specs.Block.{bytes_at, no_state, state_at, picked, lowered, IsBlock}

-- from a place on, and none before it, the states are newer
pub newer_from : (above from : ℕ) (xs : List State) → AllWithin (λ (t : State). nat_lt above t.version ≡ false) xs 0 from → AllWithin (λ (t : State). nat_lt above t.version ≡ true) xs from (length xs)
    → (p : ℕ) → p < length xs → nat_le from p ≡ nat_lt above (state_at xs p).version
newer_from above from xs older new p lt =
    elim (cases_lt p from) [
      | inl before ↦ lt-leb from p before ∙ sym (older p no_state (omega arith) before)
      | inr behind ↦ le-leb from p behind ∙ sym (new p no_state behind lt)
    ]

module _ (xs : List State) (from : ℕ) where
  lowered_at : (p : ℕ) → from ≤ p → state_at (drop from xs) (p - from) ≡ state_at xs p
  lowered_at p le = get_or-drop from xs (p - from) no_state ∙ ap (λ n. get_or xs n no_state) (omega arith)

  cut_within : (ps : List ℕ) → AllByRecursion (λ p. p < length xs) ps → AllByRecursion (λ p. p < length (drop from xs)) (lowered from ps)
  cut_within [] all = tt
  cut_within (p ∷ ps) all =
      elim (nat_le from p) as (λ b. nat_le from p ≡ b → AllByRecursion (λ p. p < length (drop from xs)) (map (λ q. q - from) (cond b (p ∷ filter (nat_le from) ps) (filter (nat_le from) ps)))) [
        | true ↦ λ e. (omega (arith, leb-true from p e, all.0, length-drop from xs), cut_within ps all.1)
        | false ↦ λ e. cut_within ps all.1
      ] refl

  cut_picked : (above : ℕ) → ((p : ℕ) → p < length xs → nat_le from p ≡ nat_lt above (state_at xs p).version) → (ps : List ℕ) → AllByRecursion (λ p. p < length xs) ps
      → picked (drop from xs) (lowered from ps) ≡ newer above (picked xs ps)
  cut_picked above parts [] all = refl
  cut_picked above parts (p ∷ ps) all =
      let rest = cut_picked above parts ps all.1 in
      rw (← parts p all.0) (elim (nat_le from p) as (λ b. nat_le from p ≡ b → picked (drop from xs) (map (λ q. q - from) (cond b (p ∷ filter (nat_le from) ps) (filter (nat_le from) ps))) ≡ cond b (state_at xs p ∷ newer above (picked xs ps)) (newer above (picked xs ps))) [
        | true ↦ λ e. (λ i. lowered_at p (leb-true from p e) i ∷ rest i)
        | false ↦ λ e. rest
      ] refl)

  among_lowered : (i : ℕ) (ps : List ℕ) → is_among ps (i + from) ≡ true → is_among (lowered from ps) i ≡ true
  among_lowered i [] e = absurd cc
  among_lowered i (p ∷ ps) e =
      elim (or_cases (p == i + from) (is_among ps (i + from)) e) [
        | inl same ↦
            let is : p ≡ i + from = eqb-true p (i + from) same in
            let kept : nat_le from p ≡ true = le-leb from p (omega arith) in
            rw kept (or_left (p - from == i) (is_among (lowered from ps) i) (eq-eqb (p - from) i (omega arith)))
        | inr rest ↦
            elim (nat_le from p) as (λ b. is_among (map (λ q. q - from) (cond b (p ∷ filter (nat_le from) ps) (filter (nat_le from) ps))) i ≡ true) [
              | true ↦ or_right (p - from == i) (is_among (lowered from ps) i) (among_lowered i ps rest)
              | false ↦ among_lowered i ps rest
            ]
      ]

-- the bytes at places are those of what is picked
pub bytes-picked : (xs : List State) (ps : List ℕ) → bytes_at xs ps ≡ listed_bytes (picked xs ps)
bytes-picked xs [] = refl
bytes-picked xs (p ∷ ps) =
    sum_by-cons (λ q. text_size (state_at xs q).text) p ps ∙ ap (λ n. text_size (state_at xs p).text + n) (bytes-picked xs ps)
    ∙ sym (sum_by-cons (λ (s : State). text_size s.text) (state_at xs p) (picked xs ps))

-- a block has no more states than there are keys
pub few_states : (xs : List State) (ps : List ℕ) (bytes : ℕ) → IsBlock xs ps bytes → length xs ≤ STATE_LIMIT
few_states xs ps bytes b =
    omega (arith, few_places (length xs) ps b.whole, states_few IsState (λ e is. is.key) (pairs (picked xs ps)) b.valid (pairs_rise (picked xs ps) b.rise), length-rows xs ps)

-- the block that a cut leaves
pub record Cut (xs : List State) (ps : List ℕ) (above from : ℕ) (states : States) : Type 0 where
  pub within : AllByRecursion (λ p. p < length (drop from xs)) (lowered from ps)
  pub few : bytes_at (drop from xs) (lowered from ps) < 2 ^ 32
  pub small : length xs ≤ STATE_LIMIT
  pub block : IsBlock (drop from xs) (lowered from ps) (bytes_at (drop from xs) (lowered from ps))
  pub view : finmap.from_sorted {R = nat_cmp} (pairs (picked (drop from xs) (lowered from ps))) ≡ newer_than above states

module _ (xs : List State) (ps : List ℕ) (bytes above from : ℕ) (states : States) (b : IsBlock xs ps bytes) (seen : finmap.from_sorted {R = nat_cmp} (pairs (picked xs ps)) ≡ states)
    (parts : (p : ℕ) → p < length xs → nat_le from p ≡ nat_lt above (state_at xs p).version) where
  listed_cut : picked (drop from xs) (lowered from ps) ≡ newer above (picked xs ps)
  listed_cut = cut_picked xs from above parts ps b.within

  -- a place behind the cut is one of the whole
  dropped_at : (i : ℕ) → state_at (drop from xs) i ≡ state_at xs (i + from)
  dropped_at i = get_or-drop from xs i no_state ∙ ap (λ n. get_or xs n no_state) (omega arith)

  cut_rise : KeysRise (picked (drop from xs) (lowered from ps))
  cut_rise = subst (λ (ys : List State). KeysRise ys) (sym listed_cut) (newer_rise above (picked xs ps) b.rise)

  cut_valid : AllByRecursion IsState (pairs (picked (drop from xs) (lowered from ps)))
  cut_valid = subst (λ (ys : List State). AllByRecursion IsState (pairs ys)) (sym listed_cut) (newer_valid above (picked xs ps) b.valid)

  cut_keys : (i j : ℕ) → i < j → j < length (drop from xs) → (state_at (drop from xs) i).version ≡ (state_at (drop from xs) j).version → (state_at (drop from xs) i).key < (state_at (drop from xs) j).key
  cut_keys i j lt hi = rw (dropped_at i, dropped_at j) (b.risen.keys (i + from) (j + from) (omega arith) (omega (arith, hi, length-drop from xs)))

  cut_of : Cut xs ps above from states
  cut_of = record {
    within = cut_within xs from ps b.within;
    few = subst (λ n. n < 2 ^ 32) (sym (bytes-picked (drop from xs) (lowered from ps))) (bytes_few (picked (drop from xs) (lowered from ps)) (picked (drop from xs) (lowered from ps)) refl cut_rise cut_valid);
    small = few_states xs ps bytes b;
    block = record {
      risen = record { versions = IsNonDecreasingBy-drop (λ (t : State). t.version) from xs b.risen.versions; keys = cut_keys };
      rise = cut_rise;
      within = cut_within xs from ps b.within;
      whole = λ i lt. among_lowered xs from i ps (b.whole (i + from) (omega (arith, lt, length-drop from xs)));
      valid = cut_valid;
      counted = bytes-picked (drop from xs) (lowered from ps);
    };
    view = ap (λ (ys : List State). finmap.from_sorted {R = nat_cmp} (pairs ys)) listed_cut ∙ newer_than-pairs above (picked xs ps) b.rise ∙ ap (newer_than above) seen;
  }

-- the same from what a search says of a list that is the vector
pub cut_at : (given xs : List State) (ps : List ℕ) (bytes above from : ℕ) (states : States) → IsBlock xs ps bytes → finmap.from_sorted {R = nat_cmp} (pairs (picked xs ps)) ≡ states → given ≡ xs
    → AllWithin (λ (t : State). nat_lt above t.version ≡ false) given 0 from → AllWithin (λ (t : State). nat_lt above t.version ≡ true) given from (length given) → Cut xs ps above from states
cut_at given xs ps bytes above from states b seen same older new =
    cut_of xs ps bytes above from states b seen
    (newer_from above from xs (subst (λ (ys : List State). AllWithin (λ (t : State). nat_lt above t.version ≡ false) ys 0 from) same older)
    (subst (λ (ys : List State). AllWithin (λ (t : State). nat_lt above t.version ≡ true) ys from (length ys)) same new))
