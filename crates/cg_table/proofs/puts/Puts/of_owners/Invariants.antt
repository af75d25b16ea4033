use Rattle.std.proofs.Common.{◌≡◌, take}
use Rattle.cg_table.specs.Puts.{rows_at}
use Rattle.cg_table.proofs.puts.Puts.of_owners.Given as goal

abbrev pub invariant-loop-owner : goal.invariant-loop-owner
invariant-loop-owner l = l.rows.items ≡ rows_at l.table.entries (take l.owner-index l.owners)
