use Rattle.std.proofs.Common.{◌≡◌, ◌++◌, drop}
use Rattle.cg_tokens.specs.Claims.{without, merge}
use Rattle.cg_tokens.proofs.claims.merged.Given as goal

abbrev pub invariant-loop-claim : goal.invariant-loop-claim
invariant-loop-claim l = l.made.items ++ merge (without l.owners (drop l.claim-index l.claims)) l.rest ≡ merge (without l.owners l.claims) l.fresh
