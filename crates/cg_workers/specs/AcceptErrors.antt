-- Errors after which accepting goes on.
use Rattle.std.specs.Prelude.{ℤ, pos, Bool, false, Option, Some, None, List, [], ◌∷◌}
use Rattle.std.specs.Ordering.{int_eq}
use Rattle.std.specs.List.{list_any}

-- Linux's numbers of the errors that are of one connection, or of the moment
abbrev pub passing : List ℤ
passing = pos 1 ∷ pos 4 ∷ pos 12 ∷ pos 23 ∷ pos 24 ∷ pos 64 ∷ pos 71 ∷ pos 92 ∷ pos 95 ∷ pos 100 ∷ pos 101 ∷ pos 103 ∷ pos 104 ∷ pos 105 ∷ pos 112 ∷ pos 113 ∷ []

-- an error with one of these numbers, if the system gave it one
abbrev pub is_passing : Option ℤ → Bool
is_passing None = false
is_passing (Some code) = list_any (λ c. int_eq c code) passing
