use Rattle.std.proofs.Common.{append_assoc}
use Rattle.cg_page.specs.Drawn.{stroke}
use Rattle.cg_page.proofs.ring.add_stroke.Goals as goal

pub returns : goal.returns
unfolding stroke
returns c = simp (c.in_ok-add_number-2.ensures, c.in_ok-add-3.ensures, c.in_ok-add_number.ensures, c.in_ok-add-2.ensures, c.in_ok-add_colour.ensures, c.in_ok-add.ensures, append_assoc) at c.add-4.ensures
