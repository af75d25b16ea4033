use Rattle.std.proofs.Common.{◌≡◌}
use Rattle.cg_write_ahead_tests.proofs.boards.all_answered.Given as goal

abbrev pub invariant-loop-letter : goal.invariant-loop-letter
invariant-loop-letter g l = l.seat.parts ≡ l.initial.seat.parts
