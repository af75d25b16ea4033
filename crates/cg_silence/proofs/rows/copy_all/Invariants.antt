use Rattle.std.proofs.Common.{◌≡◌, ◌++◌, take}
use Rattle.cg_silence.proofs.rows.copy_all.Given as goal

abbrev pub invariant-loop-row : goal.invariant-loop-row
invariant-loop-row l = l.made.items ≡ l.fn.made.items ++ take l.row-index l.rows
