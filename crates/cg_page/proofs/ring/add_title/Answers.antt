use Rattle.std.proofs.Common.{append_assoc}
use Rattle.cg_page.specs.Drawn.{title}
use Rattle.cg_page.proofs.ring.add_title.Goals as goal

pub returns : goal.returns
unfolding title
returns c = simp (c.in_ok-add_endpoint.ensures, c.in_ok-add-2.ensures, c.in_ok-add_token.ensures, c.in_ok-add.ensures, append_assoc) at c.add-3.ensures
