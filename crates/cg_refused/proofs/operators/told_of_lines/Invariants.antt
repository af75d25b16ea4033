use Rattle.cg_locked.specs.Seats.{GoesOn}
use Rattle.cg_refused.proofs.operators.told_of_lines.Given as goal

abbrev pub invariant-loop-line : goal.invariant-loop-line
invariant-loop-line g l = GoesOn l.initial.gate l.gate
