use Rattle.std.proofs.Common.{◌≡◌, length}
use Rattle.cg_audit.specs.Lives.{differ}
use Rattle.cg_audit.proofs.lives.endpoints_differ.Given as goal

abbrev pub invariant-loop-first : goal.invariant-loop-first
invariant-loop-first l = differ l.lives ≡ differ l.rest

abbrev pub decreases-loop-first : goal.decreases-loop-first
decreases-loop-first l = length l.rest
