use Rattle.std.proofs.Common.{◌≡◌, ◌-◌, None}
use Rattle.cg_entry.specs.declared.state.State.{State}
use Rattle.cg_frames.specs.Lists.{states_at, state_at}
use Rattle.cg_frames.specs.Readers.{IsEndOf}
use Rattle.cg_frames.proofs.ListLemmas.{with_front}
use Rattle.cg_frames.proofs.deltas.states_in.Given as goal

abbrev pub invariant-loop : goal.invariant-loop
invariant-loop l = (with_front (λ (s : State). s.key) (state_at l.layout l.above) l.states.items (states_at l.layout l.above (l.count - l.counter) l.last l.reader) ≡ states_at l.layout l.above l.count None l.section) × IsEndOf l.section l.reader
