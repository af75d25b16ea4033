use Rattle.cg_audit.specs.Tracks.{tracks}
use Rattle.cg_audit.proofs.NextLemmas.{IsNextSoFar}
use Rattle.cg_audit.proofs.turns.next.Given as goal

abbrev pub invariant-loop-place : goal.invariant-loop-place
invariant-loop-place l = IsNextSoFar l.sent (tracks l.lives l.cursors) l.place l.chosen
