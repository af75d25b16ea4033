use Rattle.std.proofs.Common.{◌≡◌, drop}
use Rattle.cg_exchange.specs.Walking.{from_owner}
use Rattle.cg_exchange.proofs.walking.from_owner.Given as goal

abbrev pub invariant-loop-i : goal.invariant-loop-i
invariant-loop-i g l = from_owner g.M.Owned.owner_of l.owner (drop l.i l.members) ≡ from_owner g.M.Owned.owner_of l.owner l.members
