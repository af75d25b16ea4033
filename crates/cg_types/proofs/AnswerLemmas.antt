-- The meaning of a refusal.
use Rattle.std.proofs.Common.{◌≡◌, Result, Err, refl}
use Rattle.cg_types.specs.declared.fault.Fault.{Fault}
use Rattle.cg_types.specs.declared.fault.Fault.TheVariants as faults
use Rattle.cg_types.specs.Answer.{IsRefusal}

-- A refusal that is not for memory is the expected fault.
pub refused : {Y : Type 0} (f : Fault) (due : Result Y Fault) → (f ≡ faults.OutOfMemory → ⊥) → IsRefusal f due → due ≡ Err f
refused faults.OutOfMemory due other is = absurd (other refl)
refused f due other is = is
