use Rattle.std.proofs.Common.{◌≡◌}
use Rattle.cg_refused.proofs.boards.prepare.Given as goal

abbrev pub invariant-loop-place : goal.invariant-loop-place
invariant-loop-place g l = l.seat.parts ≡ l.initial.seat.parts
