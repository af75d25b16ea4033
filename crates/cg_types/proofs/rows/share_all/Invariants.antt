use Rattle.std.proofs.Common.{◌≡◌, ◌++◌, take}
use Rattle.cg_types.proofs.rows.share_all.Given as goal

abbrev pub invariant-loop-row : goal.invariant-loop-row
invariant-loop-row g l = l.shared.items ≡ l.fn.shared.items ++ take l.row-index l.rows
