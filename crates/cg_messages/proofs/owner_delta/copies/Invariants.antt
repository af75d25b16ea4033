use Rattle.std.proofs.Common.{◌≡◌, take}
use Rattle.cg_messages.proofs.owner_delta.copies.Given as goal

abbrev pub invariant-loop-sent : goal.invariant-loop-sent
invariant-loop-sent l = l.copies.items ≡ take l.sent-index l.deltas
