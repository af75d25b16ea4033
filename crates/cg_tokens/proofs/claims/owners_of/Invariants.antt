use Rattle.std.proofs.Common.{◌≡◌, take}
use Rattle.cg_types.specs.Rows.{keys_of}
use Rattle.cg_tokens.proofs.claims.owners_of.Given as goal

abbrev pub invariant-loop-row : goal.invariant-loop-row
invariant-loop-row l = l.owners.items ≡ keys_of (take l.row-index l.rows)
