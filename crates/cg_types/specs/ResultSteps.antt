-- Steps that may fail.
use Rattle.std.specs.Prelude.{Result, Ok, Err}

-- the next step after one that did not fail
infixl 10 ◌>>=◌
abbrev pub ◌>>=◌ : {A B E : Type 0} → Result A E → (A → Result B E) → Result B E
(Ok x) >>= f = f x
(Err e) >>= f = Err e

-- the value that is made of a step that did not fail
abbrev pub then : {A B E : Type 0} → Result A E → (A → B) → Result B E
then (Ok x) go = Ok (go x)
then (Err e) go = Err e
