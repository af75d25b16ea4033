use Rattle.std.proofs.Common.{◌≡◌, ◌++◌, take}
use Rattle.std.specs.List.{flat_map}
use Rattle.cg_page.specs.Rows.{row_html}
use Rattle.cg_page.proofs.rows.add_rows.Given as goal

abbrev pub invariant-loop-row : goal.invariant-loop-row
invariant-loop-row l = l.page.items ≡ l.initial.page.items ++ flat_map (row_html l.status.seen.items) (take l.row-index l.rows)
