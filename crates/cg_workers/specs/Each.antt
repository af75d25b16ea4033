-- Steps, one after the other.
use Rattle.std.specs.Prelude.{◌≡◌, List, [], ◌∷◌}

-- the steps of these, in their order, lead from s to t
abbrev pub Each : {X S : Type 0} → (X → S → S → Type 0) → List X → S → S → Type 0
Each step [] s t = t ≡ s
Each {X} {S} step (x ∷ xs) s t = (u : S) × step x s u × Each step xs u t
