-- Versions and generations that rise: the rules of the next ones.
use Rattle.std.specs.Prelude.{ℕ, ◌+◌, nat_lt, max, Option, Some, None, Result, Ok, Err, if◌then◌else◌}
use Rattle.cg_types.specs.declared.fault.Fault.{Fault}
use Rattle.cg_types.specs.declared.fault.Fault.TheVariants.{VersionsSpent}
use Rattle.cg_types.specs.declared.limits.TheConstants.{NUMBER_LIMIT}

-- a number, if it is below the limit of versions and generations
abbrev pub below_limit : ℕ → Result ℕ Fault
below_limit n = if nat_lt n NUMBER_LIMIT then Ok n else Err VersionsSpent

-- the version after the last one
abbrev pub next_version : ℕ → Result ℕ Fault
next_version last = below_limit (last + 1)

-- one more than the stored generation, or 1 if none is stored
abbrev pub generation_after : Option ℕ → ℕ
generation_after None = 1
generation_after (Some stored) = stored + 1

-- the generation of a start at a number of seconds since 1970
abbrev pub generation_at_start : Option ℕ → ℕ → Result ℕ Fault
generation_at_start stored seconds = below_limit (max (generation_after stored) seconds)
