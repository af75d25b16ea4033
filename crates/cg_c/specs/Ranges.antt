-- Numbers that C passes, and the ranges that they have to be in.
use Rattle.std.specs.Prelude.{ℕ, ◌&&◌, nat_lt, nat_le, Option, Some, None, Result, Ok, Err, if◌then◌else◌}
use Rattle.cg_types.specs.declared.fault.Fault.{Fault}
use Rattle.cg_types.specs.declared.fault.Fault.TheVariants.{BadText}
use Rattle.cg_types.specs.declared.limits.TheConstants.{NUMBER_LIMIT, STATE_LIMIT}

-- the key of a number
abbrev pub key_of : ℕ → Result ℕ Fault
key_of number = if nat_lt 0 number && nat_le number STATE_LIMIT then Ok number else Err BadText

-- the generation of a number
abbrev pub generation_of : ℕ → Option ℕ
generation_of number = if nat_lt 0 number && nat_lt number NUMBER_LIMIT then Some number else None
