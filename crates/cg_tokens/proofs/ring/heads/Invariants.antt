use Rattle.std.proofs.Common.{◌≡◌, ◌++◌, drop, None}
use Rattle.cg_tokens.specs.Claims.{first_claims}
use Rattle.cg_tokens.proofs.ring.heads.Given as goal

abbrev pub invariant-loop-claim : goal.invariant-loop-claim
invariant-loop-claim l = l.positions.items ++ first_claims l.last (drop l.claim-index l.claims) ≡ first_claims None l.claims
