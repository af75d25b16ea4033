use Rattle.std.proofs.Common.{◌≡◌, ◌++◌, take}
use Rattle.cg_entry.proofs.block.push_copies.Given as goal

abbrev pub invariant-loop-state : goal.invariant-loop-state
invariant-loop-state l = l.copies.items ≡ l.fn.copies.items ++ take l.state-index l.items
