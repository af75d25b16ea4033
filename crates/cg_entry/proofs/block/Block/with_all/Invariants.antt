use Rattle.std.proofs.Common.{◌≡◌, drop}
use Rattle.cg_entry.specs.Block.{put_all}
use Rattle.cg_entry.proofs.block.Block.with_all.Given as goal

abbrev pub invariant-loop-state : goal.invariant-loop-state
invariant-loop-state l = put_all (drop l.state-index l.state-items) l.block ≡ put_all l.newer l.self
