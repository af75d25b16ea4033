use Rattle.std.proofs.Common.{append_assoc}
use Rattle.cg_page.specs.Rows.{head_cell}
use Rattle.cg_page.proofs.rows.add_head.Goals as goal

pub returns : goal.returns
unfolding head_cell
returns c = simp (c.in_ok-add_endpoint-2.ensures, c.in_ok-add-3.ensures, c.in_ok-add_colour.ensures, c.in_ok-add-2.ensures, c.in_ok-add_endpoint.ensures, c.in_ok-add.ensures, append_assoc) at c.add-4.ensures
