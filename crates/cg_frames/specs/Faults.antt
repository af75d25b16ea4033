-- Faults of a frame.
use Rattle.std.specs.Prelude.{◌≡◌}
use Rattle.cg_types.specs.declared.fault.Fault.{Fault}
use Rattle.cg_types.specs.declared.fault.Fault.TheVariants.{BadFrame}

-- a bad frame, with its offset and cause
abbrev pub IsBadFrame : Fault → Type 0
IsBadFrame (BadFrame place cause) = Unit {0}
IsBadFrame fault = ⊥

-- a bad frame, or this other fault
abbrev pub IsBadFrameOr : Fault → Fault → Type 0
IsBadFrameOr other (BadFrame place cause) = Unit {0}
IsBadFrameOr other fault = fault ≡ other
