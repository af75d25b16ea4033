-- A block's states and places: rows by key, a search among them, and the entry at a place.
use Rattle.std.proofs.Common.{◌≡◌, ℕ, zero, suc, ◌-◌, ◌<◌, ◌≤◌, true, false, cond, List, [], ◌∷◌, map, length, take, drop, get_or, Some, Result, Ok, Err, IfOk, IfErr, refl, sym, ap, subst, ◌∙◌, arith, nat_lt, length-drop}
use Rattle.std.specs.Prelude.{◌&&◌, nat_le, slice_get}
use Rattle.std.specs.List.{filter, AllByRecursion}
use Rattle.std.specs.List.Sorted.{IsSearchInRange, IsBinarySearchResult, IsNonDecreasingBy}
use Rattle.std.specs.Ordering.{nat_cmp, ordering_index}
use Rattle.std.specs.FinMap as finmap
use Rattle.std.proofs.lemmas.Bool.Decides.{nat_tests}
use Rattle.std.proofs.lemmas.Bool.{lt-ltb}
use Rattle.std.proofs.lemmas.List.{take_all}
use Rattle.cg_entry.specs.declared.state.State.{State}
use Rattle.std.specs.FinMap.Entries.{find}
use Rattle.cg_entry.specs.State.{pair, pairs, value_at_key, KeysRise}
use Rattle.cg_entry.proofs.StateLemmas.{pairs_rise, entries-pairs}
use Rattle.std.proofs.lemmas.Option.{slice_get-get_or}
use Rattle.cg_types.specs.Rows.{IsRowAt, IsGapAt}
use Rattle.cg_types.proofs.RowLemmas.{searched, find_row}
use Rattle.cg_entry.specs.Versioned.{Versioned, States}
use Rattle.cg_entry.proofs.DeltaLemmas.{len-pairs}
use Rattle.cg_entry.specs.Block.{no_state, state_at, picked, lowered, bumped}

-- a fact of each member of a list is one of the member at a place
pub each_at : {X : Type 0} (P : X → Type 0) (xs : List X) (i : ℕ) (d : X) → AllByRecursion P xs → i < length xs → P (get_or xs i d)
each_at P [] i d all lt = absurd (omega arith)
each_at P (x ∷ xs) zero d all lt = all.0
each_at P (x ∷ xs) (suc i) d all lt = each_at P xs i d all.1 (omega arith)

-- a version that is not over another one
pub not_over : (above v : ℕ) → nat_le v above ≡ true → nat_lt above v ≡ false
not_over above v e = grind (arith, nat_tests)

pub is_over : (above v : ℕ) → nat_le v above ≡ false → nat_lt above v ≡ true
is_over above v e = grind (arith, nat_tests)

pub get_or_any : {X : Type 0} (xs : List X) (i : ℕ) (d e : X) → i < length xs → get_or xs i d ≡ get_or xs i e
get_or_any [] i d e lt = absurd (omega arith)
get_or_any (x ∷ xs) zero d e lt = refl
get_or_any (x ∷ xs) (suc i) d e lt = get_or_any xs i d e (omega arith)

-- ---- rows of states that are picked

module _ (items : List State) where
  abbrev row : ℕ → ℕ × Versioned
  row p = pair (state_at items p)

  pub length-picked : (ps : List ℕ) → length (picked items ps) ≡ length ps
  length-picked [] = refl
  length-picked (p ∷ ps) = ap suc (length-picked ps)

  pub length-rows : (ps : List ℕ) → length (pairs (picked items ps)) ≡ length ps
  length-rows [] = refl
  length-rows (p ∷ ps) = ap suc (length-rows ps)

  pub row_at : (ps : List ℕ) (i e : ℕ) (d : ℕ × Versioned) → i < length ps → get_or (pairs (picked items ps)) i d ≡ row (get_or ps i e)
  row_at [] i e d lt = absurd (omega arith)
  row_at (p ∷ ps) zero e d lt = refl
  row_at (p ∷ ps) (suc i) e d lt = row_at ps i e d (omega arith)

  -- a search over places is one over the rows
  pub to_rows : (k : ℕ) (ps : List ℕ) (r : Result ℕ ℕ) → IsSearchInRange r (length ps)
      → IsBinarySearchResult (λ p. nat_cmp (state_at items p).key k) ps r → IsBinarySearchResult (λ (e : ℕ × Versioned). nat_cmp e.0 k) (pairs (picked items ps)) r
  to_rows k ps (Ok at) within equal = λ d. ap (λ (e : ℕ × Versioned). nat_cmp e.0 k) (row_at ps at 0 d within) ∙ equal 0
  to_rows k ps (Err at) within parted = λ up.
      let few = length-rows ps in
      let rise : IsNonDecreasingBy (λ p. ordering_index (nat_cmp (state_at items p).key k)) ps = λ i j d le hi.
      let e : ℕ × Versioned = row 0 in
      let a : get_or (pairs (picked items ps)) i e ≡ row (get_or ps i d) = row_at ps i d e (omega arith) in
      let b : get_or (pairs (picked items ps)) j e ≡ row (get_or ps j d) = row_at ps j d e hi in
      subst (λ (x : ℕ × Versioned). ordering_index (nat_cmp x.0 k) ≤ ordering_index (nat_cmp (row (get_or ps j d)).0 k)) a
      (subst (λ (y : ℕ × Versioned). ordering_index (nat_cmp (get_or (pairs (picked items ps)) i e).0 k) ≤ ordering_index (nat_cmp y.0 k)) b (up i j e le (omega arith))) in
      let parts = parted rise in (
        λ j d lo lt. ap (λ (e : ℕ × Versioned). nat_cmp e.0 k) (row_at ps j 0 d (omega arith)) ∙ parts.0 j 0 lo lt,
        λ j d lo lt. ap (λ (e : ℕ × Versioned). nat_cmp e.0 k) (row_at ps j 0 d (omega arith)) ∙ parts.1 j 0 lo (omega arith),
      )

  pub len-picked : (ps : List ℕ) (states : States) → KeysRise (picked items ps) → finmap.from_sorted {R = nat_cmp} (pairs (picked items ps)) ≡ states → length ps ≡ finmap.len states
  len-picked ps states rise seen = sym (length-picked ps) ∙ len-pairs (picked items ps) states rise seen

-- ---- places after an edit

pub lowered_few : (from : ℕ) (ps : List ℕ) → length (lowered from ps) ≤ length ps
lowered_few from [] = omega arith
lowered_few from (p ∷ ps) =
    elim (nat_le from p) as (λ b. length (map (λ q. q - from) (cond b (p ∷ filter (nat_le from) ps) (filter (nat_le from) ps))) ≤ suc (length ps)) [
      | true ↦ omega (arith, lowered_few from ps)
      | false ↦ omega (arith, lowered_few from ps)
    ]

pub bumped_few : (at : ℕ) (ps : List ℕ) → length (bumped at ps) ≡ length ps
bumped_few at [] = refl
bumped_few at (p ∷ ps) = ap suc (bumped_few at ps)

-- places are bumped slots
pub bumped_places : (at : ℕ) (ps : List ℕ) → AllByRecursion (λ p. p < 16) ps → map (λ p. cond (nat_lt p 16 && nat_le at p) (suc p) p) ps ≡ bumped at ps
bumped_places at [] all = refl
bumped_places at (p ∷ ps) all = (λ i. cond (lt-ltb p 16 all.0 i && nat_le at p) (suc p) p ∷ bumped_places at ps all.1 i)

-- ---- the state that a search finds

-- a search over places ends at the row of the key, or at the gap for it
pub searched_rows : (items : List State) (k : ℕ) (ps : List ℕ) → KeysRise (picked items ps) → (key : ℕ) (r : Result ℕ ℕ) → key ≡ k → IsSearchInRange r (length ps) → IsBinarySearchResult (λ p. nat_cmp (state_at items p).key key) ps r
    → record { found : IfOk r (λ n. IsRowAt (pairs (picked items ps)) k n); absent : IfErr r (λ n. IsGapAt (pairs (picked items ps)) k n) }
searched_rows items k ps rise key r same within found =
    searched k (pairs (picked items ps)) (pairs_rise (picked items ps) rise) r (subst (λ n. IsSearchInRange r n) (sym (length-rows items ps)) within)
    (to_rows items k ps r within (subst (λ n. IsBinarySearchResult (λ p. nat_cmp (state_at items p).key n) ps r) same found))

-- a place with the key is its row
pub row_here : (items : List State) (k : ℕ) (ps : List ℕ) (at : ℕ) → at < length ps → (state_at items (get_or ps at 0)).key ≡ k → IsRowAt (pairs (picked items ps)) k at
row_here items k ps at lt same = record {
  in_range = omega (arith, lt, length-rows items ps);
  has_key = λ d. ap (λ (e : ℕ × Versioned). e.0) (row_at items ps at 0 d lt) ∙ same;
}

module _ (items : List State) (k : ℕ) (ps : List ℕ) (at : ℕ) (rise : KeysRise (picked items ps)) (here : IsRowAt (pairs (picked items ps)) k at) where
  pub row_within : at < length ps
  row_within = omega (arith, here.in_range, length-rows items ps)

  pub found_row : find nat_cmp k (pairs (picked items ps)) ≡ Some (value_at_key (state_at items (get_or ps at 0)))
  found_row =
      find_row k (pairs (picked items ps)) at (row items 0) (pairs_rise (picked items ps) rise) here ∙ ap (λ (e : ℕ × Versioned). Some e.1) (row_at items ps at 0 (row items 0) row_within)

  pub found_key : (state_at items (get_or ps at 0)).key ≡ k
  found_key = ap (λ (e : ℕ × Versioned). e.0) (sym (row_at items ps at 0 (row items 0) row_within)) ∙ here.has_key (row items 0)

-- the row at a place in the order of the keys
pub picked_at : (items : List State) (ps : List ℕ) (i : ℕ) → i < length ps → slice_get (pairs (picked items ps)) i ≡ Some (pair (state_at items (get_or ps i 0)))
picked_at items ps i lt =
    slice_get-get_or (pairs (picked items ps)) i (row items 0) (omega (arith, lt, length-rows items ps)) ∙ ap (λ (e : ℕ × Versioned). Some e) (row_at items ps i 0 (row items 0) lt)

-- the state that an index at a place reads
pub read_at : (items : List State) (p q : ℕ) (s : State) → s ≡ get_or items q s → q ≡ p → p < length items → state_at items p ≡ s
read_at items p q s is same lt = get_or_any items p (no_state) s lt ∙ ap (λ (n : ℕ). get_or items n s) (sym same) ∙ sym is

-- the value of `&items[n..]`
pub rest_from : (xs : List State) (n : ℕ) → take (length xs - n) (drop n xs) ≡ drop n xs
rest_from xs n = take_all (length xs - n) (drop n xs) (omega (arith, length-drop n xs))

-- the rows of a block are its map's entries
pub rows_of : (given xs : List State) (places ps : List ℕ) (states : States) → given ≡ xs → places ≡ ps → KeysRise (picked xs ps) → finmap.from_sorted {R = nat_cmp} (pairs (picked xs ps)) ≡ states → pairs (picked given places) ≡ finmap.entries states
rows_of given xs places ps states same_xs same_ps rise seen = (λ i. pairs (picked (same_xs i) (same_ps i))) ∙ sym (entries-pairs (picked xs ps) rise) ∙ ap finmap.entries seen
