-- The states of a delta, by the way they are kept.
use Rattle.std.specs.Arc.{arc_value}
use Rattle.cg_entry.specs.declared.held.Kept.{Kept}
use Rattle.cg_entry.specs.declared.held.Kept.TheVariants.{Own, Shared}
use Rattle.cg_entry.specs.Versioned.{States}

abbrev pub held_states : Kept → States
held_states (Own states) = states
held_states (Shared states) = arc_value states
