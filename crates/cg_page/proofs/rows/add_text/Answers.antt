use Rattle.std.proofs.Common.{append_assoc}
use Rattle.cg_page.specs.Rows.{text_html}
use Rattle.cg_page.proofs.rows.add_text.Goals as goal

pub returns : goal.returns
unfolding text_html
returns c = simp (c.in_ok-add_escaped.ensures, c.in_ok-add-3.ensures, c.in_ok-add-2.ensures, c.in_ok-add.ensures, c.name.ensures, c.as_str.ensures.value, append_assoc) at c.add-4.ensures
