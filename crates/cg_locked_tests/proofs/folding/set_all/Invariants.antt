use Rattle.std.proofs.Common.{◌≡◌}
use Rattle.cg_locked_tests.proofs.folding.set_all.Given as goal

abbrev pub invariant-loop : goal.invariant-loop
invariant-loop g l = l.seat.parts ≡ l.fn.seat.parts
