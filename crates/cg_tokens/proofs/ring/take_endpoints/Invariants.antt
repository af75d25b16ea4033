use Rattle.std.proofs.Common.{◌≡◌, drop}
use Rattle.cg_tokens.specs.Ring.{firsts_until, endpoints}
use Rattle.cg_tokens.proofs.ring.take_endpoints.Given as goal

abbrev pub invariant-loop-endpoint : goal.invariant-loop-endpoint
invariant-loop-endpoint l = firsts_until l.rf l.taken.items (endpoints (drop l.endpoint-index l.positions)) ≡ firsts_until l.rf l.fn.taken.items (endpoints l.positions)
