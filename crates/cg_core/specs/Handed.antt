-- Deltas that come with an event.
use Rattle.std.specs.Prelude.{List, []}
use Rattle.cg_messages.specs.declared.owner_delta.OwnerDelta.{OwnerDelta}
use Rattle.cg_core.specs.declared.event.Event.{Event}
use Rattle.cg_core.specs.declared.event.Event.TheVariants as event

-- the deltas that an event brings a node
abbrev pub deltas_handed : Event → List OwnerDelta
deltas_handed event.Beat = []
deltas_handed (event.Set key text) = []
deltas_handed (event.Remove key) = []
deltas_handed (event.Tick now words) = []
deltas_handed event.Opening = []
deltas_handed (event.Syn syn) = []
deltas_handed (event.Ack now ack) = ack.deltas
deltas_handed (event.Ack2 now ack2) = ack2.deltas
