use Rattle.std.proofs.Common.{◌≡◌, take}
use Rattle.cg_table.specs.Merge.{strangers}
use Rattle.cg_table.proofs.table.Table.strangers.Given as goal

abbrev pub invariant-loop-row : goal.invariant-loop-row
invariant-loop-row l = l.count ≡ strangers l.self.entries (take l.row-index l.rows)
