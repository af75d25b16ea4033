use Rattle.std.proofs.Common.{◌≡◌, ◌-◌, None}
use Rattle.cg_frames.specs.Lists.{states_at}
use Rattle.cg_frames.specs.Readers.{behind}
use Rattle.cg_frames.proofs.deltas.pass_states.Given as goal

abbrev pub invariant-loop : goal.invariant-loop
invariant-loop l = behind (states_at l.layout l.above (l.count - l.counter) l.last l.reader) ≡ behind (states_at l.layout l.above l.count None l.initial.reader)
