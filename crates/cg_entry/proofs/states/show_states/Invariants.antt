use Rattle.std.proofs.Common.{take}
use Rattle.std.specs.List.{AllByRecursion}
use Rattle.cg_entry.specs.Contents.{IsState}
use Rattle.cg_entry.specs.State.{pairs}
use Rattle.cg_entry.proofs.states.show_states.Given as goal

abbrev pub invariant-loop-state : goal.invariant-loop-state
invariant-loop-state l = AllByRecursion IsState (pairs (take l.state-index l.items))
