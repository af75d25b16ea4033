use Rattle.std.proofs.Common.{◌≡◌, drop}
use Rattle.std.specs.List.{flat_map}
use Rattle.std.specs.Arc.{arc_value}
use Rattle.cg_entry.specs.State.{pairs}
use Rattle.cg_entry.specs.Block.{picked}
use Rattle.cg_entry.specs.Section.{state}
use Rattle.cg_entry.proofs.block.gather.Given as goal

abbrev pub invariant-loop-place : goal.invariant-loop-place
invariant-loop-place l = (l.items.items ≡ l.fn.items.items) × (drop l.at (arc_value l.section).items ≡ flat_map state (pairs (picked l.fn.items.items (drop l.place-index l.places))))
