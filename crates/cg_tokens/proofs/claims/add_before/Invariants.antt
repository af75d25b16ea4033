use Rattle.std.proofs.Common.{◌≡◌, ◌++◌, length}
use Rattle.cg_tokens.specs.Claims.{before, behind}
use Rattle.cg_tokens.proofs.claims.add_before.Given as goal

abbrev pub invariant-loop-first : goal.invariant-loop-first
invariant-loop-first l = record {
  added : l.made.items ++ before l.claim l.left ≡ l.initial.made.items ++ before l.claim l.rest;
  left : behind l.claim l.left ≡ behind l.claim l.rest;
}

abbrev pub decreases-loop-first : goal.decreases-loop-first
decreases-loop-first l = length l.left
