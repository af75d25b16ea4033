use Rattle.std.proofs.Common.{◌≡◌, take}
use Rattle.cg_entry.specs.State.{listed_bytes}
use Rattle.cg_entry.proofs.states.size_of_texts.Given as goal

abbrev pub invariant-loop-state : goal.invariant-loop-state
invariant-loop-state l = l.bytes ≡ listed_bytes (take l.state-index l.items)
