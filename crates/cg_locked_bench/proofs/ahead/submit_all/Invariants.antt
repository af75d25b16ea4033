use Rattle.std.proofs.Common.{◌≡◌}
use Rattle.cg_locked_bench.proofs.ahead.submit_all.Given as goal

abbrev pub invariant-loop : goal.invariant-loop
invariant-loop g l = l.seat.parts ≡ l.initial.seat.parts
