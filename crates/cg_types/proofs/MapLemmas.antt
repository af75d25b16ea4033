-- The rows of a map, and the finite map that contracts see.
use Rattle.std.proofs.Common.{◌≡◌, ℕ, List, [], ◌∷◌, ◌++◌, get_or, Some, None, refl, sym, ap, ◌∙◌}
use Rattle.std.specs.Ordering.{nat_cmp}
use Rattle.std.specs.Cmp.{nat_cmp_total}
use Rattle.std.specs.FinMap.{FinMap, empty, entries, entries_sorted, insert, get, from_sorted, same_entries_map, entries-from_sorted, entries-insert}
use Rattle.cg_types.specs.Rising.{Rises}
use Rattle.cg_types.proofs.RisingLemmas.{entries_rising, from_sorted-none, get_rising, rise_sorted}
use Rattle.cg_types.specs.Rows.{keys_of, before, after, walk, IsRowAt, IsGapAt}
use Rattle.cg_types.specs.Map.{put_each}
use Rattle.cg_types.proofs.RowLemmas.{find_row, find_in_gap}
use Rattle.cg_types.proofs.PutLemmas.{put_all, put_all-walk, walk_step}

module _ {X : Type 0} where
  pub from_sorted-entries : (m : FinMap nat_cmp X) → from_sorted (entries m) ≡ m
  from_sorted-entries m = same_entries_map (from_sorted (entries m)) m (entries-from_sorted nat_cmp (entries m) (entries_sorted m))

  entries-put_each : (cs : List (ℕ × X)) (m : FinMap nat_cmp X) → entries (put_each cs m) ≡ put_all cs (entries m)
  entries-put_each [] m = refl
  entries-put_each (c ∷ cs) m = entries-put_each cs (insert m c.0 c.1) ∙ ap (put_all cs) (entries-insert nat_cmp_total m c.0 c.1)

  module _ (cs rows : List (ℕ × X)) (m : FinMap nat_cmp X) (valid : Rises (keys_of rows)) (seen : from_sorted {R = nat_cmp} rows ≡ m) (rise : Rises (keys_of cs)) where
    walked_entries : walk cs rows ≡ entries (put_each cs m)
    walked_entries = put_all-walk None cs rows rise valid ∙ ap (put_all cs) (sym (ap entries (sym seen) ∙ entries_rising rows valid)) ∙ sym (entries-put_each cs m)

    -- a walk makes the rows of the map with each row put
    pub walked_view : from_sorted {R = nat_cmp} (walk cs rows) ≡ put_each cs m
    walked_view = ap (from_sorted {R = nat_cmp}) walked_entries ∙ from_sorted-entries (put_each cs m)

    pub walked_valid : Rises (keys_of (walk cs rows))
    walked_valid = rw walked_entries (rise_sorted (entries (put_each cs m)) (entries_sorted (put_each cs m)))

  pub listed : (rows given : List (ℕ × X)) (m : FinMap nat_cmp X) → given ≡ rows → Rises (keys_of rows) → from_sorted {R = nat_cmp} rows ≡ m → given ≡ entries m
  listed rows given m same valid seen = same ∙ sym (entries_rising rows valid) ∙ ap (λ (n : FinMap nat_cmp X). entries n) seen

  pub got : (rows given : List (ℕ × X)) (m : FinMap nat_cmp X) (k at : ℕ) (row : ℕ × X) (v : X) → given ≡ rows → Rises (keys_of rows) → from_sorted {R = nat_cmp} rows ≡ m → IsRowAt given k at → row ≡ get_or rows at row → v ≡ row.1 → Some v ≡ get m k
  got rows given m k at row v same valid seen here is value =
      ap Some (value ∙ ap (λ (r : ℕ × X). r.1) is) ∙ sym (find_row k rows at row valid (rw same at here)) ∙ sym (get_rising rows k valid) ∙ ap (λ (n : FinMap nat_cmp X). get n k) seen

  pub not_got : (rows given : List (ℕ × X)) (m : FinMap nat_cmp X) (k at : ℕ) → given ≡ rows → Rises (keys_of rows) → from_sorted {R = nat_cmp} rows ≡ m → IsGapAt given k at → None ≡ get m k
  not_got rows given m k at same valid seen gap =
      sym (find_in_gap k rows at (rw same at gap)) ∙ sym (get_rising rows k valid) ∙ ap (λ (n : FinMap nat_cmp X). get n k) seen

  -- a map is empty exactly if it has no rows
  pub entries-empty : entries (empty {X = X} {R = nat_cmp}) ≡ []
  entries-empty = ap (λ (n : FinMap nat_cmp X). entries n) (sym from_sorted-none) ∙ entries_rising [] refl

  pub no_rows : (rows : List (ℕ × X)) (m : FinMap nat_cmp X) → rows ≡ entries m → m ≡ empty → rows ≡ []
  no_rows rows m is none = is ∙ ap (λ (n : FinMap nat_cmp X). entries n) none ∙ entries-empty

  pub is_empty : (rows : List (ℕ × X)) (m : FinMap nat_cmp X) → rows ≡ entries m → rows ≡ [] → empty ≡ m
  is_empty rows m is none = same_entries_map empty m (entries-empty ∙ sym none ∙ is)

  -- the rows that `put` makes of those around the key
  pub put_rows : (rows given b a : List (ℕ × X)) (k : ℕ) (v : X) → given ≡ rows → b ≡ before k given → a ≡ after k given → ((b ++ (k, v) ∷ []) ++ a) ≡ walk ((k, v) ∷ []) rows
  put_rows rows given b a k v same front back = walk_step [] rows ((k, v) ∷ []) [] b a (k, v) refl (front ∙ ap (before k) same) (back ∙ ap (after k) same)
