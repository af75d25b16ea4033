-- Steps that may give nothing.
use Rattle.std.specs.Prelude.{Option, Some, None}

-- the next step of a value, if there is one
infixl 10 ◌>>=◌
abbrev pub ◌>>=◌ : {A B : Type 0} → Option A → (A → Option B) → Option B
None >>= f = None
(Some x) >>= f = f x
