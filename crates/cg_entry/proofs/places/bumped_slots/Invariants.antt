use Rattle.std.proofs.Common.{◌≡◌, ◌++◌, suc, cond, nat_lt, length, map, take, drop}
use Rattle.std.specs.Prelude.{◌&&◌, nat_le}
use Rattle.cg_entry.proofs.places.bumped_slots.Given as goal

abbrev pub invariant-loop-number : goal.invariant-loop-number
invariant-loop-number l = record {
  long : length l.slots ≡ 16;
  so_far : l.slots ≡ map (λ p. cond (nat_lt p 16 && nat_le l.at p) (suc p) p) (take l.number l.fn.before) ++ drop l.number l.fn.before;
}
