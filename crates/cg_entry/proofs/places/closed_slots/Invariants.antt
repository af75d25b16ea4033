use Rattle.std.proofs.Common.{◌≡◌, ◌++◌, length, take, drop}
use Rattle.cg_entry.specs.Block.{closed}
use Rattle.cg_entry.proofs.places.closed_slots.Given as goal

abbrev pub invariant-loop-number : goal.invariant-loop-number
invariant-loop-number l = record {
  long : length l.slots ≡ 16;
  so_far : l.slots ≡ closed l.at (take l.number l.fn.before) ++ drop l.number l.fn.before;
}
