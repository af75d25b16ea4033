use Rattle.std.proofs.Common.{◌≡◌, ◌++◌, map, take}
use Rattle.cg_tokens.specs.Claims.{claim}
use Rattle.cg_tokens.proofs.claims.add_claims.Given as goal

abbrev pub invariant-loop-token : goal.invariant-loop-token
invariant-loop-token l = l.claims.items ≡ l.initial.claims.items ++ map (claim (l.owner, l.entry)) (take l.token-index l.token-items)
