-- The states of a block that are newer than a version, by the way they are given.
use Rattle.std.specs.FinMap as map
use Rattle.cg_entry.specs.declared.block.Newer.{Newer}
use Rattle.cg_entry.specs.declared.block.Newer.TheVariants.{Nothing, Each, Part}
use Rattle.cg_entry.specs.Versioned.{States}

-- the states of an answer about a block of these
abbrev pub newer_states : Newer → States → States
newer_states Nothing states = map.empty
newer_states Each states = states
newer_states (Part newer) states = newer
