-- The states of an entry, from none or a shared block.
use Rattle.std.specs.Arc.{arc_value}
use Rattle.std.specs.FinMap as map
use Rattle.cg_entry.specs.declared.standing.Kept.{Kept}
use Rattle.cg_entry.specs.declared.standing.Kept.TheVariants.{Bare, Shared}
use Rattle.cg_entry.specs.Versioned.{States}

abbrev pub standing_states : Kept → States
standing_states Bare = map.empty
standing_states (Shared states) = arc_value states
