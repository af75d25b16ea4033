-- A state that is newer than all others goes to the vector's end, and its place to its key's number.
use Rattle.std.proofs.Common.{◌≡◌, ℕ, zero, suc, ◌+◌, ◌-◌, ◌<◌, ◌≤◌, ◌==◌, ◌^◌, true, false, cond, List, [], ◌∷◌, ◌++◌, map, length, get_or, set, None, refl, sym, ap, subst, ◌∙◌, arith, nat_lt, inl, inr, eqb-true, eq-eqb, length-append}
use Rattle.std.specs.Prelude.{insert, remove}
use Rattle.std.specs.List.{AllByRecursion, AllPairs, AllWithin}
use Rattle.std.specs.Ordering.{nat_cmp}
use Rattle.std.specs.FinMap as finmap
use Rattle.std.specs.FinMap.Entries.{put}
use Rattle.std.proofs.Math.Seq.{get_or-append_seam}
use Rattle.std.proofs.lemmas.Bool.{lt-ltb, le-ltb, ltb-true, ltb-false, or_cases, or_left, or_right, cases_order, cases_lt}
use Rattle.std.proofs.lemmas.List.{map-set, get_or-map, get_or_append_left, get_or-set_same, length-set}
use Rattle.std.proofs.lemmas.List.Edits.{length-insert, length-remove, get_or-insert_at, get_or-remove_below, get_or-remove_above}
use Rattle.std.proofs.lemmas.List.Folds.{list_any_at}
use Rattle.std.proofs.lemmas.List.Quantifiers.{all_pairs_push, all_pairs_remove}
use Rattle.std.proofs.lemmas.List.Sums.{sum_by-set, sum_by-insert, sum_by-remove}
use Rattle.cg_types.specs.declared.limits.TheConstants.{STATE_LIMIT}
use Rattle.cg_types.specs.Rising.{is_among}
use Rattle.cg_types.specs.Rows.{IsRowAt, IsGapAt}
use Rattle.cg_types.proofs.PutLemmas.{put_less, put_same, put_greater}
use Rattle.cg_types.proofs.RowLemmas.{keys_lt}
use Rattle.cg_entry.specs.declared.state.State.{State}
use Rattle.cg_entry.specs.Contents.{IsState}
use Rattle.cg_entry.specs.Entry.{text_size}
use Rattle.cg_entry.specs.State.{pair, pairs, value_at_key, listed_bytes, KeysRise}
use Rattle.cg_entry.specs.Versioned.{Versioned, States}
use Rattle.cg_entry.specs.Block.{no_state, state_at, picked, closed, IsRisen, IsBlock}
use Rattle.cg_entry.proofs.StateLemmas.{pairs_rise, entries-pairs}
use Rattle.cg_entry.proofs.PutLemmas.{put_rises, put_inserted}
use Rattle.cg_entry.proofs.FewLemmas.{states_few, bytes_few}
use Rattle.cg_entry.proofs.BlockLemmas.{length-rows, length-picked, row_at, each_at, get_or_any}
use Rattle.cg_entry.proofs.PushLemmas.{all_picked}
use Rattle.cg_entry.proofs.CutLemmas.{few_states}

-- ---- rows: another value at a key, and a key in its gap

put_here : (k : ℕ) (v : Versioned) (d : ℕ × Versioned) (rs : List (ℕ × Versioned)) (n : ℕ) → n < length rs → AllWithin (λ (r : ℕ × Versioned). r.0 < k) rs 0 n → (get_or rs n d).0 ≡ k → set rs n (k, v) ≡ put nat_cmp k v rs
put_here k v d [] n lt less same = absurd (omega arith)
put_here k v d (r ∷ rs) zero lt less same = ap (λ (x : ℕ). (x, v) ∷ rs) (sym same) ∙ sym (put_same k v r rs (sym same))
put_here k v d (r ∷ rs) (suc n) lt less same =
    ap (λ (xs : List (ℕ × Versioned)). r ∷ xs) (put_here k v d rs n (omega arith) (λ j e lo hi. less (suc j) e (omega arith) (omega arith)) same)
    ∙ sym (put_greater k v r rs (less 0 d (omega arith) (omega arith)))

put_gap : (k : ℕ) (v : Versioned) (rs : List (ℕ × Versioned)) (n : ℕ) → n ≤ length rs → AllWithin (λ (r : ℕ × Versioned). r.0 < k) rs 0 n → AllWithin (λ (r : ℕ × Versioned). k < r.0) rs n (length rs) → insert rs n (k, v) ≡ put nat_cmp k v rs
put_gap k v [] zero le less greater = refl
put_gap k v [] (suc n) le less greater = absurd (omega arith)
put_gap k v (r ∷ rs) zero le less greater = sym (put_less k v r rs (greater 0 r (omega arith) (omega arith)))
put_gap k v (r ∷ rs) (suc n) le less greater =
    ap (λ (xs : List (ℕ × Versioned)). r ∷ xs) (put_gap k v rs n (omega arith) (λ j e lo hi. less (suc j) e (omega arith) (omega arith)) (λ j e lo hi. greater (suc j) e (omega arith) (omega arith)))
    ∙ sym (put_greater k v r rs (less 0 r (omega arith) (omega arith)))

-- ---- lists with one more, or another one

map_insert : {A B : Type 0} (f : A → B) (xs : List A) (n : ℕ) (y : A) → map f (insert xs n y) ≡ insert (map f xs) n (f y)
map_insert f [] zero y = refl
map_insert f [] (suc n) y = refl
map_insert f (x ∷ xs) zero y = refl
map_insert f (x ∷ xs) (suc n) y = ap (λ ys. f x ∷ ys) (map_insert f xs n y)

module _ {X : Type 0} (P : X → Type 0) where
  all_set : (xs : List X) (n : ℕ) (x : X) → AllByRecursion P xs → P x → AllByRecursion P (set xs n x)
  all_set [] n x all is = tt
  all_set (y ∷ ys) zero x all is = (is, all.1)
  all_set (y ∷ ys) (suc n) x all is = (all.0, all_set ys n x all.1 is)

  all_insert : (xs : List X) (n : ℕ) (x : X) → AllByRecursion P xs → P x → AllByRecursion P (insert xs n x)
  all_insert [] zero x all is = (is, tt)
  all_insert [] (suc n) x all is = (is, tt)
  all_insert (y ∷ ys) zero x all is = (is, all)
  all_insert (y ∷ ys) (suc n) x all is = (all.0, all_insert ys n x all.1 is)

-- ---- the order of the vector

-- one state before another
abbrev Stands : State → State → Type 0
Stands x y = (x.version ≤ y.version) × (x.version ≡ y.version → x.key < y.key)

to_pairs : (xs : List State) → IsRisen xs → AllPairs Stands xs
to_pairs xs r i j d lt hi =
    subst (λ (x : State). Stands x (get_or xs j d)) (get_or_any xs i no_state d (omega arith)) (subst (λ (y : State). Stands (state_at xs i) y) (get_or_any xs j no_state d hi) (r.versions i j no_state (omega arith) hi, r.keys i j lt hi))

from_pairs : (xs : List State) → AllPairs Stands xs → IsRisen xs
from_pairs xs all = record {
  versions = λ i j d le hi. elim (cases_lt i j) [
    | inl lt ↦ (all i j d lt hi).0
    | inr ge ↦ let same : i ≡ j = omega arith in subst (λ k. (get_or xs i d).version ≤ (get_or xs k d).version) same (omega arith)
  ];
  keys = λ i j lt hi. (all i j no_state lt hi).1;
}

risen_remove : (xs : List State) (p : ℕ) → p < length xs → IsRisen xs → IsRisen (remove xs p)
risen_remove xs p lt r = from_pairs (remove xs p) (all_pairs_remove Stands xs p lt (to_pairs xs r))

risen_push : (xs : List State) (s : State) → ((i : ℕ) → i < length xs → (state_at xs i).version < s.version) → IsRisen xs → IsRisen (xs ++ s ∷ [])
risen_push xs s older r =
    from_pairs (xs ++ s ∷ []) (all_pairs_push Stands xs s (to_pairs xs r) (λ k d lt.
    let less : (state_at xs k).version < s.version = older k lt in
    subst (λ (x : State). Stands x s) (get_or_any xs k no_state d lt) (omega arith, λ e. absurd (omega arith))))

-- ---- the states that are picked once one is taken out and another comes last

module _ (xs : List State) (p : ℕ) (s : State) (within : p < length xs) where
  abbrev moved : List State
  moved = remove xs p ++ s ∷ []

  stays : (q : ℕ) → (q ≡ p → ⊥) → q < length xs → state_at (remove xs p ++ s ∷ []) (cond (nat_lt p q) (q - 1) q) ≡ state_at xs q
  stays q other hi =
      elim (nat_lt p q) as (λ b. nat_lt p q ≡ b → state_at (remove xs p ++ s ∷ []) (cond b (q - 1) q) ≡ state_at xs q) [
        | true ↦ λ e.
            let over : p < q = ltb-true p q e in
            get_or_append_left (remove xs p) (s ∷ []) no_state (q - 1) (omega (arith, length-remove xs p within))
            ∙ get_or-remove_above xs p no_state (q - 1) (omega arith) within ∙ ap (λ n. get_or xs n no_state) (omega arith)
        | false ↦ λ e.
            let under : q ≤ p = ltb-false p q e in
            let below : q < p = omega (arith, other) in
            get_or_append_left (remove xs p) (s ∷ []) no_state q (omega (arith, length-remove xs p within))
            ∙ get_or-remove_below xs p no_state q below within
      ] refl

  others : (qs : List ℕ) → ((i : ℕ) → i < length qs → get_or qs i 0 ≡ p → ⊥) → AllByRecursion (λ q. q < length xs) qs → picked (remove xs p ++ s ∷ []) (closed p qs) ≡ picked xs qs
  others [] alone all = refl
  others (q ∷ qs) alone all = (λ i. stays q (alone 0 (omega arith)) all.0 i ∷ others qs (λ j lt. alone (suc j) (omega arith)) all.1 i)

  picked_moved : (qs : List ℕ) (n : ℕ) → n < length qs → ((i : ℕ) → i < length qs → (i ≡ n → ⊥) → get_or qs i 0 ≡ p → ⊥) → AllByRecursion (λ q. q < length xs) qs
      → picked (remove xs p ++ s ∷ []) (set (closed p qs) n (length (remove xs p))) ≡ set (picked xs qs) n s
  picked_moved [] n lt alone all = absurd (omega arith)
  picked_moved (q ∷ qs) zero lt alone all =
      (λ i. get_or-append_seam (remove xs p) s [] no_state i ∷ others qs (λ j l. alone (suc j) (omega arith) (λ e. omega arith)) all.1 i)
  picked_moved (q ∷ qs) (suc n) lt alone all =
      (λ i. stays q (alone 0 (omega arith) (λ e. omega arith)) all.0 i ∷ picked_moved qs n (omega arith) (λ j l ne. alone (suc j) (omega arith) (λ e. ne (omega arith))) all.1 i)

  within_closed : (qs : List ℕ) → AllByRecursion (λ q. q < length xs) qs → AllByRecursion (λ q. q < length (remove xs p ++ s ∷ [])) (closed p qs)
  within_closed [] all = tt
  within_closed (q ∷ qs) all = (
    elim (nat_lt p q) as (λ b. cond b (q - 1) q < length (remove xs p ++ s ∷ [])) [
      | true ↦ omega (arith, all.0, length-remove xs p within, length-append (remove xs p) (s ∷ []))
      | false ↦ omega (arith, all.0, length-remove xs p within, length-append (remove xs p) (s ∷ []))
    ],
    within_closed qs all.1,
  )

pub closed_few : (p : ℕ) (qs : List ℕ) → length (closed p qs) ≡ length qs
closed_few p [] = refl
closed_few p (q ∷ qs) = ap suc (closed_few p qs)

among_closed : (p j i : ℕ) (qs : List ℕ) → cond (nat_lt p j) (j - 1) j ≡ i → is_among qs j ≡ true → is_among (closed p qs) i ≡ true
among_closed p j i [] is e = absurd cc
among_closed p j i (q ∷ qs) is e =
    elim (or_cases (q == j) (is_among qs j) e) [
      | inl same ↦ or_left (cond (nat_lt p q) (q - 1) q == i) (is_among (closed p qs) i) (eq-eqb (cond (nat_lt p q) (q - 1) q) i (ap (λ k. cond (nat_lt p k) (k - 1) k) (eqb-true q j same) ∙ is))
      | inr rest ↦ or_right (cond (nat_lt p q) (q - 1) q == i) (is_among (closed p qs) i) (among_closed p j i qs is rest)
    ]

among_moved : (p j i last : ℕ) (qs : List ℕ) (n : ℕ) → get_or qs n 0 ≡ p → (j ≡ p → ⊥) → cond (nat_lt p j) (j - 1) j ≡ i → is_among qs j ≡ true → is_among (set (closed p qs) n last) i ≡ true
among_moved p j i last [] n here other is e = absurd cc
among_moved p j i last (q ∷ qs) zero here other is e =
    elim (or_cases (q == j) (is_among qs j) e) [
      | inl same ↦ absurd (other (sym (eqb-true q j same) ∙ here))
      | inr rest ↦ or_right (last == i) (is_among (closed p qs) i) (among_closed p j i qs is rest)
    ]
among_moved p j i last (q ∷ qs) (suc n) here other is e =
    elim (or_cases (q == j) (is_among qs j) e) [
      | inl same ↦ or_left (cond (nat_lt p q) (q - 1) q == i) (is_among (set (closed p qs) n last) i) (eq-eqb (cond (nat_lt p q) (q - 1) q) i (ap (λ k. cond (nat_lt p k) (k - 1) k) (eqb-true q j same) ∙ is))
      | inr rest ↦ or_right (cond (nat_lt p q) (q - 1) q == i) (is_among (set (closed p qs) n last) i) (among_moved p j i last qs n here other is rest)
    ]

among_here : (qs : List ℕ) (n i : ℕ) → n < length qs → is_among (set qs n i) i ≡ true
among_here qs n i lt = list_any_at (λ y. y == i) (set qs n i) n 0 (omega (arith, lt, length-set qs n i)) (eq-eqb (get_or (set qs n i) n 0) i (get_or-set_same qs n i 0 lt))

whole_moved : (size p n last : ℕ) (qs : List ℕ) → ((i : ℕ) → i < size → is_among qs i ≡ true) → last + 1 ≡ size → n < length qs → get_or qs n 0 ≡ p → (i : ℕ) → i < size → is_among (set (closed p qs) n last) i ≡ true
whole_moved size p n last qs all is lt here i hi =
    elim (cases_lt i last) [
      | inr end ↦ let same : last ≡ i = omega arith in subst (λ k. is_among (set (closed p qs) n last) k ≡ true) same (among_here (closed p qs) n last (omega (arith, lt, closed_few p qs)))
      | inl front ↦ elim (cases_lt i p) [
        | inl below ↦ among_moved p i i last qs n here (λ e. omega arith) (ap (λ b. cond b (i - 1) i) (le-ltb p i (omega arith))) (all i hi)
        | inr behind ↦ among_moved p (suc i) i last qs n here (λ e. omega arith) (ap (λ b. cond b (suc i - 1) (suc i)) (lt-ltb p (suc i) (omega arith)) ∙ omega arith) (all (suc i) (omega arith))
      ]
    ]

-- ---- the states that are picked once another comes last

picked_kept : (xs : List State) (s : State) (qs : List ℕ) → AllByRecursion (λ q. q < length xs) qs → picked (xs ++ s ∷ []) qs ≡ picked xs qs
picked_kept xs s [] all = refl
picked_kept xs s (q ∷ qs) all = (λ i. get_or_append_left xs (s ∷ []) no_state q all.0 i ∷ picked_kept xs s qs all.1 i)

within_more : (xs : List State) (s : State) (qs : List ℕ) → AllByRecursion (λ q. q < length xs) qs → AllByRecursion (λ q. q < length (xs ++ s ∷ [])) qs
within_more xs s [] all = tt
within_more xs s (q ∷ qs) all = (omega (arith, all.0, length-append xs (s ∷ [])), within_more xs s qs all.1)

among_kept : (qs : List ℕ) (n i x : ℕ) → is_among qs i ≡ true → is_among (insert qs n x) i ≡ true
among_kept [] n i x e = absurd cc
among_kept (q ∷ qs) zero i x e = or_right (x == i) (is_among (q ∷ qs) i) e
among_kept (q ∷ qs) (suc n) i x e =
    elim (or_cases (q == i) (is_among qs i) e) [
      | inl same ↦ or_left (q == i) (is_among (insert qs n x) i) same
      | inr rest ↦ or_right (q == i) (is_among (insert qs n x) i) (among_kept qs n i x rest)
    ]

whole_added : (size n : ℕ) (qs : List ℕ) → ((i : ℕ) → i < size → is_among qs i ≡ true) → n ≤ length qs → (i : ℕ) → i < size + 1 → is_among (insert qs n size) i ≡ true
whole_added size n qs all le i hi =
    elim (cases_lt i size) [
      | inl lt ↦ among_kept qs n i size (all i lt)
      | inr end ↦
          let same : size ≡ i = omega arith in
          subst (λ k. is_among (insert qs n size) k ≡ true) same
          (list_any_at (λ y. y == size) (insert qs n size) n 0 (omega (arith, le, length-insert qs n size le)) (eq-eqb (get_or (insert qs n size) n 0) size (get_or-insert_at qs n size 0 le)))
    ]

-- ---- the block with a newest state

-- a block with a state put
pub record Put (ys : List State) (qs : List ℕ) (bytes : ℕ) (s : State) (states : States) : Type 0 where
  pub block : IsBlock ys qs bytes
  pub small : length ys ≤ STATE_LIMIT
  pub few : length qs ≤ STATE_LIMIT
  pub few_bytes : bytes < 2 ^ 32
  pub view : finmap.from_sorted {R = nat_cmp} (pairs (picked ys qs)) ≡ finmap.insert states s.key (value_at_key s)

put_of : (xs : List State) (ps : List ℕ) (bytes : ℕ) (ys : List State) (qs : List ℕ) (count : ℕ) (s : State) (states : States) → IsBlock xs ps bytes → finmap.from_sorted {R = nat_cmp} (pairs (picked xs ps)) ≡ states
    → IsRisen ys → pairs (picked ys qs) ≡ put nat_cmp s.key (value_at_key s) (pairs (picked xs ps)) → AllByRecursion (λ q. q < length ys) qs → ((i : ℕ) → i < length ys → is_among qs i ≡ true)
    → AllByRecursion IsState (pairs (picked ys qs)) → count ≡ listed_bytes (picked ys qs) → Put ys qs count s states
put_of xs ps bytes ys qs count s states b seen risen made within whole valid counted =
    let rise : KeysRise (picked ys qs) = put_rises s.key (value_at_key s) (picked xs ps) (picked ys qs) b.rise made in
    let block : IsBlock ys qs count = record { risen = risen; rise = rise; within = within; whole = whole; valid = valid; counted = counted } in
    record {
      block = block;
      small = few_states ys qs count block;
      few = omega (arith, states_few IsState (λ e is. is.key) (pairs (picked ys qs)) valid (pairs_rise (picked ys qs) rise), length-rows ys qs);
      few_bytes = subst (λ n. n < 2 ^ 32) (sym counted) (bytes_few (picked ys qs) (picked ys qs) refl rise valid);
      view = put_inserted s.key (value_at_key s) (picked xs ps) (picked xs ps) (picked ys qs) states refl b.rise seen made;
    }

module _ (xs : List State) (ps : List ℕ) (bytes n : ℕ) (s : State) (states : States) (b : IsBlock xs ps bytes) (seen : finmap.from_sorted {R = nat_cmp} (pairs (picked xs ps)) ≡ states)
    (is : IsState (pair s)) (newest : AllByRecursion (λ (e : ℕ × Versioned). e.1.version < s.version) (finmap.entries states)) where
  rows_are : finmap.entries states ≡ pairs (picked xs ps)
  rows_are = ap finmap.entries (sym seen) ∙ entries-pairs (picked xs ps) b.rise

  older : (i : ℕ) → i < length xs → (state_at xs i).version < s.version
  older i lt = all_picked (λ (e : ℕ × Versioned). e.1.version < s.version) xs i ps (b.whole i lt) (subst (λ es. AllByRecursion (λ (e : ℕ × Versioned). e.1.version < s.version) es) rows_are newest)

  -- ---- in place of the state at its key

  module _ (row : IsRowAt (finmap.entries states) s.key n) where
    row_is : IsRowAt (pairs (picked xs ps)) s.key n
    row_is = subst (λ (es : List (ℕ × Versioned)). IsRowAt es s.key n) rows_are row

    pub number_within : n < length ps
    number_within = omega (arith, row_is.in_range, length-rows xs ps)

    pub place_within : get_or ps n 0 < length xs
    place_within = each_at (λ p. p < length xs) ps n 0 b.within number_within

    row_key : (i : ℕ) → i < length ps → (get_or (pairs (picked xs ps)) i (pair no_state)).0 ≡ (state_at xs (get_or ps i 0)).key
    row_key i lt = ap (λ (e : ℕ × Versioned). e.0) (row_at xs ps i 0 (pair no_state) lt)

    -- no other place is the same
    only_here : (i : ℕ) → i < length ps → (i ≡ n → ⊥) → get_or ps i 0 ≡ get_or ps n 0 → ⊥
    only_here i lt other e =
        let same : (state_at xs (get_or ps i 0)).key ≡ (state_at xs (get_or ps n 0)).key = ap (λ q. (state_at xs q).key) e in
        let rise = pairs_rise (picked xs ps) b.rise in
        elim (cases_order i n) [
          | inl equal ↦ other equal
          | inr (inl below) ↦ omega (arith, keys_lt None (pairs (picked xs ps)) rise i n (pair no_state) below row_is.in_range, row_key i lt, row_key n number_within, same)
          | inr (inr above) ↦ omega (arith, keys_lt None (pairs (picked xs ps)) rise n i (pair no_state) above (omega (arith, lt, length-rows xs ps)), row_key i lt, row_key n number_within, same)
        ]

    listed_moved : picked (remove xs (get_or ps n 0) ++ s ∷ []) (set (closed (get_or ps n 0) ps) n (length (remove xs (get_or ps n 0)))) ≡ set (picked xs ps) n s
    listed_moved = picked_moved xs (get_or ps n 0) s place_within ps n number_within only_here b.within

    rows_moved : pairs (picked (remove xs (get_or ps n 0) ++ s ∷ []) (set (closed (get_or ps n 0) ps) n (length (remove xs (get_or ps n 0))))) ≡ set (pairs (picked xs ps)) n (pair s)
    rows_moved = ap pairs listed_moved ∙ map-set pair (picked xs ps) n s

    less_before : AllWithin (λ (r : ℕ × Versioned). r.0 < s.key) (pairs (picked xs ps)) 0 n
    less_before j d lo hi =
        let same : (get_or (pairs (picked xs ps)) n d).0 ≡ s.key = row_is.has_key d in
        omega (arith, same, keys_lt None (pairs (picked xs ps)) (pairs_rise (picked xs ps) b.rise) j n d hi row_is.in_range)

    old_text : text_size (get_or (picked xs ps) n no_state).text ≡ text_size (state_at xs (get_or ps n 0)).text
    old_text = ap (λ (t : State). text_size t.text) (get_or-map (state_at xs) ps n 0 no_state number_within)

    listed_within : n < length (picked xs ps)
    listed_within = omega (arith, number_within, length-picked xs ps)

    pub old_bytes : text_size (state_at xs (get_or ps n 0)).text ≤ bytes
    old_bytes =
        let sum = sum_by-remove (λ (t : State). text_size t.text) (picked xs ps) n no_state listed_within in
        let counted = b.counted in
        omega (arith, sum, counted, old_text)

    bytes_moved : bytes - text_size (state_at xs (get_or ps n 0)).text + text_size s.text ≡ listed_bytes (set (picked xs ps) n s)
    bytes_moved =
        let sum = sum_by-set (λ (t : State). text_size t.text) (picked xs ps) n s no_state listed_within in
        let counted = b.counted in
        omega (arith, sum, counted, old_text, old_bytes)

    older_rest : (i : ℕ) → i < length (remove xs (get_or ps n 0)) → (state_at (remove xs (get_or ps n 0)) i).version < s.version
    older_rest i lt =
        elim (cases_lt i (get_or ps n 0)) [
          | inl below ↦ rw (get_or-remove_below xs (get_or ps n 0) no_state i below place_within) (older i (omega (arith, place_within)))
          | inr from ↦ rw (get_or-remove_above xs (get_or ps n 0) no_state i from place_within) (older (i + 1) (omega (arith, lt, length-remove xs (get_or ps n 0) place_within)))
        ]

    pub replaced : Put (remove xs (get_or ps n 0) ++ s ∷ []) (set (closed (get_or ps n 0) ps) n (length (remove xs (get_or ps n 0)))) (bytes - text_size (state_at xs (get_or ps n 0)).text + text_size s.text) s states
    replaced =
        let size : length (remove xs (get_or ps n 0)) + 1 ≡ length xs = length-remove xs (get_or ps n 0) place_within in
        let long : length (remove xs (get_or ps n 0) ++ s ∷ []) ≡ length (remove xs (get_or ps n 0)) + 1 = length-append (remove xs (get_or ps n 0)) (s ∷ []) in
        put_of xs ps bytes (remove xs (get_or ps n 0) ++ s ∷ []) (set (closed (get_or ps n 0) ps) n (length (remove xs (get_or ps n 0)))) (bytes - text_size (state_at xs (get_or ps n 0)).text + text_size s.text) s states b seen
        (risen_push (remove xs (get_or ps n 0)) s older_rest (risen_remove xs (get_or ps n 0) place_within b.risen))
        (rows_moved ∙ put_here s.key (value_at_key s) (pair no_state) (pairs (picked xs ps)) n row_is.in_range less_before (row_is.has_key (pair no_state)))
        (all_set (λ q. q < length (remove xs (get_or ps n 0) ++ s ∷ [])) (closed (get_or ps n 0) ps) n (length (remove xs (get_or ps n 0))) (within_closed xs (get_or ps n 0) s place_within ps b.within) (omega arith))
        (λ i lt. whole_moved (length xs) (get_or ps n 0) n (length (remove xs (get_or ps n 0))) ps b.whole size number_within refl i (omega arith))
        (subst (λ es. AllByRecursion IsState es) (sym rows_moved) (all_set IsState (pairs (picked xs ps)) n (pair s) b.valid is))
        (bytes_moved ∙ ap listed_bytes (sym listed_moved))

    pub replace_room : (n < length ps) × (get_or ps n 0 < length xs) × (length (remove xs (get_or ps n 0)) < STATE_LIMIT) × (length xs - 1 ≡ length (remove xs (get_or ps n 0)))
    replace_room =
        let size : length (remove xs (get_or ps n 0)) + 1 ≡ length xs = length-remove xs (get_or ps n 0) place_within in
        (number_within, place_within, omega (arith, replaced.small, length-append (remove xs (get_or ps n 0)) (s ∷ [])), omega arith)

  -- ---- at a key that no state has

  module _ (gap : IsGapAt (finmap.entries states) s.key n) where
    gap_is : IsGapAt (pairs (picked xs ps)) s.key n
    gap_is = subst (λ (es : List (ℕ × Versioned)). IsGapAt es s.key n) rows_are gap

    pub gap_within : n ≤ length ps
    gap_within = omega (arith, gap_is.in_range, length-rows xs ps)

    listed_added : picked (xs ++ s ∷ []) (insert ps n (length xs)) ≡ insert (picked xs ps) n s
    listed_added = map_insert (state_at (xs ++ s ∷ [])) ps n (length xs) ∙ (λ i. insert (picked_kept xs s ps b.within i) n (get_or-append_seam xs s [] no_state i))

    rows_added : pairs (picked (xs ++ s ∷ []) (insert ps n (length xs))) ≡ insert (pairs (picked xs ps)) n (pair s)
    rows_added = ap pairs listed_added ∙ map_insert pair (picked xs ps) n s

    pub added : Put (xs ++ s ∷ []) (insert ps n (length xs)) (bytes + text_size s.text) s states
    added =
        let long : length (xs ++ s ∷ []) ≡ length xs + 1 = length-append xs (s ∷ []) in
        let counted = b.counted in
        let sum = sum_by-insert (λ (t : State). text_size t.text) (picked xs ps) n s in
        put_of xs ps bytes (xs ++ s ∷ []) (insert ps n (length xs)) (bytes + text_size s.text) s states b seen
        (risen_push xs s older b.risen)
        (rows_added ∙ put_gap s.key (value_at_key s) (pairs (picked xs ps)) n gap_is.in_range gap_is.less_before gap_is.greater_from)
        (all_insert (λ q. q < length (xs ++ s ∷ [])) ps n (length xs) (within_more xs s ps b.within) (omega arith))
        (λ i lt. whole_added (length xs) n ps b.whole gap_within i (omega arith))
        (subst (λ es. AllByRecursion IsState es) (sym rows_added) (all_insert IsState (pairs (picked xs ps)) n (pair s) b.valid is))
        (omega arith ∙ ap listed_bytes (sym listed_added))

    pub add_room : (length xs < STATE_LIMIT) × (length ps < STATE_LIMIT) × (n ≤ length ps)
    add_room = (omega (arith, added.small, length-append xs (s ∷ [])), omega (arith, added.few, length-insert ps n (length xs) gap_within), gap_within)
