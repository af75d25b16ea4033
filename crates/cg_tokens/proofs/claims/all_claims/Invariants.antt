use Rattle.std.proofs.Common.{◌≡◌, ◌++◌, drop}
use Rattle.std.specs.List.{flat_map}
use Rattle.cg_tokens.specs.Claims.{claims_of}
use Rattle.cg_tokens.proofs.claims.all_claims.Given as goal

abbrev pub invariant-loop-row : goal.invariant-loop-row
invariant-loop-row l = l.all.items ++ flat_map claims_of (drop l.row-index l.rows) ≡ flat_map claims_of l.rows
