-- The settings of a node of tests.
use Rattle.std.specs.Prelude.{[], codes}
use Rattle.cg_types.specs.declared.limits.TheConstants.{PARTITIONER}
use Rattle.cg_silence.specs.Values.{default_silence}
use Rattle.cg_core.specs.SettingsValues.{SettingsValue, settings_of_parts}

-- the cluster c1, no seeds, and the default silence
abbrev pub sample_settings : SettingsValue
sample_settings = settings_of_parts (record { name = codes "c1"; partitioner = PARTITIONER }) [] default_silence
