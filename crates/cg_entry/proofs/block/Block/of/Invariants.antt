use Rattle.std.proofs.Common.{◌≡◌, take}
use Rattle.std.specs.FinMap as map
use Rattle.std.specs.Ordering.{nat_cmp}
use Rattle.cg_entry.specs.State.{pairs}
use Rattle.cg_entry.proofs.block.Block.of.Given as goal

abbrev pub invariant-loop-state : goal.invariant-loop-state
invariant-loop-state l = l.block ≡ map.from_sorted {R = nat_cmp} (pairs (take l.state-index l.items))
