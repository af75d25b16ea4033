-- Joins of places, and the sources whose join a node's places are.
use Rattle.std.specs.Prelude.{ℕ, ◌≤◌, ◌↔◌, max, List, [], ◌∷◌, length, map, ◌==◌, if◌then◌else◌}
use Rattle.std.specs.List.{Contains}
use Rattle.cg_entry.specs.Place.{Span}
use Rattle.cg_places.specs.PlaceWorld.{PlaceWorld}

-- owner by owner the later place
abbrev pub join : (ℕ → ℕ) → (ℕ → ℕ) → ℕ → ℕ
join mine theirs owner = max (mine owner) (theirs owner)

-- At each owner the first is no further than the second.
abbrev pub Within : (ℕ → ℕ) → (ℕ → ℕ) → Type 0
Within mine theirs = (owner : ℕ) → mine owner ≤ theirs owner

-- the furthest of some places, 0 of none
abbrev pub furthest : List ℕ → ℕ
furthest [] = 0
furthest (place ∷ places) = max place (furthest places)

-- the places that spans lead to
abbrev pub targets : List Span → List ℕ
targets spans = map (λ span. span.to) spans

-- The sources of a node's place of an owner: the newest place of its own entry, if it is the owner, and the targets of
-- what it took about the owner since its start.
abbrev pub sources : PlaceWorld → ℕ → ℕ → List ℕ
sources w node owner =
    if owner == node then length (w.histories node) ∷ targets (w.taken node owner)
    else targets (w.taken node owner)

-- The same places, in any order and number.
abbrev pub SamePlaces : List ℕ → List ℕ → Type 0
SamePlaces xs ys = (place : ℕ) → Contains xs place ↔ Contains ys place
