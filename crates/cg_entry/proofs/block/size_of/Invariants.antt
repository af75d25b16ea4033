use Rattle.std.proofs.Common.{◌≡◌, take}
use Rattle.cg_entry.specs.Block.{bytes_at}
use Rattle.cg_entry.proofs.block.size_of.Given as goal

abbrev pub invariant-loop-place : goal.invariant-loop-place
invariant-loop-place l = l.bytes ≡ bytes_at l.items (take l.place-index l.places)
