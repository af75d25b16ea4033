use Rattle.std.proofs.Common.{◌≡◌, ◌<◌, ◌++◌, ◌∷◌, take, drop, length}
use Rattle.cg_entry.proofs.places.Places.with.Given as goal

abbrev pub invariant-loop-next : goal.invariant-loop-next
invariant-loop-next l = record {
  rest : l.next-items ≡ drop l.number l.self;
  few : length l.self < 16;
  so_far : l.more ≡ take l.number l.self ++ l.place ∷ take l.next-index l.next-items;
}
