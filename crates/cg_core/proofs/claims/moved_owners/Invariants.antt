use Rattle.std.proofs.Common.{◌≡◌, take}
use Rattle.cg_core.specs.Claims.{moved_owners}
use Rattle.cg_core.proofs.claims.moved_owners.Given as goal

abbrev pub invariant-loop-at : goal.invariant-loop-at
invariant-loop-at l = l.owners.items ≡ moved_owners l.before.entries l.after.entries (take l.at l.outcomes)
