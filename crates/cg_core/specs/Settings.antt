-- Settings of a node that are refused, each with its fault.
use Rattle.std.specs.Prelude.{◌==◌, not, nat_lt, length, None, Result, Ok, Err, if◌then◌else◌}
use Rattle.cg_types.specs.declared.limits.TheConstants.{PARTITIONER}
use Rattle.cg_types.specs.Rising.{rise_past}
use Rattle.cg_core.specs.declared.limits.TheConstants.{SEED_LIMIT}
use Rattle.cg_core.specs.declared.fault.SettingsFault.{SettingsFault}
use Rattle.cg_core.specs.declared.fault.SettingsFault.TheVariants as fault
use Rattle.cg_core.specs.SettingsValues.{SettingsValue}

-- the settings if the partitioner is the one in use, and the seeds are few and rise; else the first fault
abbrev pub settings_or_fault : SettingsValue → Result SettingsValue SettingsFault
settings_or_fault s =
    if not (s.cluster.partitioner == PARTITIONER) then Err fault.Partitioner
    else if nat_lt SEED_LIMIT (length s.seeds) then Err fault.SeedCount
    else if not (rise_past None s.seeds) then Err fault.SeedOrder
    else Ok s
