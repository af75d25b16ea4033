use Rattle.std.proofs.Common.{◌≡◌, take}
use Rattle.cg_exchange.specs.Taking.{deltas_granted}
use Rattle.cg_exchange.proofs.taking.deltas_granted.Given as goal

abbrev pub invariant-loop-request : goal.invariant-loop-request
invariant-loop-request l = l.deltas.items ≡ deltas_granted l.table.entries (take l.request-index l.requests)
