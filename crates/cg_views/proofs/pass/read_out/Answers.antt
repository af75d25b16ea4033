use Rattle.cg_views.proofs.Beginnings.{joined-begins, when_true}
use Rattle.cg_views.proofs.Showing.{reads}
use Rattle.cg_views.proofs.pass.read_out.Goals as goal

pub enter_as-requires : goal.enter_as-requires
enter_as-requires g c x = reads _ _ _ _ x

pub returns-clause-later : goal.returns-clause-later
returns-clause-later g c =
    let known = c.pass.inside.known.all in
    let seen = c.shown.inside.front.all in
    rw (c.again-known.ensures, ← c.pass.view_is) (joined-begins known seen (when_true _ _ c.reaches.result c.if-not-reaches.false c.reaches.ensures))
