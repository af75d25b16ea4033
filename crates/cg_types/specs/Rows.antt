-- Rows in the order of their endpoints.
use Rattle.std.specs.Prelude.{ℕ, ◌≡◌, ◌<◌, ◌≤◌, List, [], ◌∷◌, ◌++◌, map, length, nat_lt}
use Rattle.std.specs.List.{filter, HoldsAt, AllWithin}

module _ {X : Type 0} where
  -- the endpoints of rows
  abbrev pub keys_of : List (ℕ × X) → List ℕ
  keys_of rows = map (λ r. r.0) rows

  -- the rows whose key is less than k
  abbrev pub before : ℕ → List (ℕ × X) → List (ℕ × X)
  before k rows = filter (λ r. nat_lt r.0 k) rows

  -- the rows whose key is greater than k
  abbrev pub after : ℕ → List (ℕ × X) → List (ℕ × X)
  after k rows = filter (λ r. nat_lt k r.0) rows

  -- each change in its place among the rows, in place of a row with its key
  abbrev pub walk : List (ℕ × X) → List (ℕ × X) → List (ℕ × X)
  walk [] rows = rows
  walk (c ∷ cs) rows = before c.0 rows ++ c ∷ walk cs (after c.0 rows)

-- the row at a place has the key
pub record IsRowAt {X : Type 0} (rows : List (ℕ × X)) (k at : ℕ) : Type 0 where
  pub in_range : at < length rows
  pub has_key : HoldsAt (λ r. r.0 ≡ k) rows at

-- a row with the key would go there: lesser keys before it, greater ones from it on
pub record IsGapAt {X : Type 0} (rows : List (ℕ × X)) (k at : ℕ) : Type 0 where
  pub in_range : at ≤ length rows
  pub less_before : AllWithin (λ r. r.0 < k) rows 0 at
  pub greater_from : AllWithin (λ r. k < r.0) rows at (length rows)
