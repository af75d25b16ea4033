-- Places in a list, counted from one.
use Rattle.std.specs.Prelude.{ℕ, zero, suc, List, slice_get, Option, None}

-- the member at a place: there is none at 0
abbrev pub at_place : {A : Type 0} → List A → ℕ → Option A
at_place xs zero = None
at_place xs (suc place) = slice_get xs place
