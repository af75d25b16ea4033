-- The status of a life's end, where it has a fault.
use Rattle.std.proofs.Common.{◌≡◌, Option, Some, None, refl}
use Rattle.std.specs.Prelude.{IsSome}
use Rattle.std.proofs.lemmas.Bool.{false≢true}
use Rattle.cg_types.specs.declared.fault.Fault.{Fault}
use Rattle.cg_serve.specs.Lives.{status_after}

pub after_unconfirmed : (unconfirmed unwritten : Option Fault) → IsSome unconfirmed → status_after unconfirmed unwritten ≡ 1
after_unconfirmed None unwritten is = absurd (false≢true is)
after_unconfirmed (Some f) unwritten is = refl

pub after_unwritten : (unconfirmed unwritten : Option Fault) → IsSome unwritten → status_after unconfirmed unwritten ≡ 1
after_unwritten unconfirmed None is = absurd (false≢true is)
after_unwritten None (Some f) is = refl
after_unwritten (Some g) (Some f) is = refl
