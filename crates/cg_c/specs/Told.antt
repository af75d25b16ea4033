-- How C is told the outcome of a call: by 0, or by the number of a fault.
use Rattle.std.specs.Prelude.{◌≡◌, ◌⊎◌, ℕ, zero, suc, Option, Some, None, Result, Ok, Err}
use Rattle.cg_types.specs.declared.fault.Fault.{Fault}
use Rattle.cg_types.specs.declared.fault.Fault.TheVariants.{OutOfMemory, BadText}
use Rattle.cg_types.specs.Fault.{fault_number}

-- what is due if a value was read, and if none was
abbrev pub read_or_bad : {Y : Type 0} → Option Y → Result Y Fault
read_or_bad None = Err BadText
read_or_bad (Some y) = Ok y

-- The number tells a refusal: memory was short, or it is that of the fault that is due.
abbrev pub TellsRefusal : {Y : Type 0} → Result Y Fault → ℕ → Type 0
TellsRefusal (Ok y) n = n ≡ fault_number OutOfMemory
TellsRefusal (Err fault) n = (n ≡ fault_number OutOfMemory) ⊎ (n ≡ fault_number fault)

-- At 0 the call gave what was due. At another number that tells the refusal, and all is as it was.
abbrev pub Tells : {Y : Type 0} → Result Y Fault → Y → Type 0 → ℕ → Type 0
Tells due given same zero = due ≡ Ok given
Tells due given same (suc n) = TellsRefusal due (suc n) × same
