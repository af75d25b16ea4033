use Rattle.std.proofs.Common.{append_assoc}
use Rattle.cg_page.specs.Rows.{row_html}
use Rattle.cg_page.proofs.rows.add_row.Goals as goal

pub returns : goal.returns
unfolding row_html
returns c = simp (c.in_ok-add_states.ensures, c.in_ok-add-2.ensures, c.in_ok-add_number.ensures, c.in_ok-add.ensures, c.in_ok-add_seen.ensures, c.in_ok-add_cells.ensures, c.in_ok-add_head.ensures, c.endpoint.ensures, c.value.ensures, c.endpoint-2.ensures, c.of.ensures, c.value-2.ensures, c.count.ensures.value, c.value-3.ensures, append_assoc) at c.add-3.ensures
