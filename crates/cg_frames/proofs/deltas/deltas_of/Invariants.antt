use Rattle.std.proofs.Common.{◌≡◌, ◌-◌, None}
use Rattle.cg_messages.specs.declared.owner_delta.OwnerDelta.{OwnerDelta}
use Rattle.cg_frames.specs.Lists.{deltas_at, delta_at}
use Rattle.cg_frames.proofs.ListLemmas.{with_front}
use Rattle.cg_frames.proofs.deltas.deltas_of.Given as goal

abbrev pub invariant-loop : goal.invariant-loop
invariant-loop l = with_front (λ (d : OwnerDelta). d.endpoint) (delta_at l.layout) l.deltas.items (deltas_at l.layout (l.count - l.counter) l.last l.ahead) ≡ deltas_at l.layout l.count None l.initial.reader
