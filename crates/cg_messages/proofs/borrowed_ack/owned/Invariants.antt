use Rattle.std.proofs.Common.{◌≡◌, take}
use Rattle.cg_messages.proofs.borrowed_ack.owned.Given as goal

abbrev pub invariant-loop-sent : goal.invariant-loop-sent
invariant-loop-sent l = l.owned.items ≡ take l.sent-index l.deltas
