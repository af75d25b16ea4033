use Rattle.std.proofs.Common.{length, sym, ap, ◌∙◌}
use Rattle.cg_cut.specs.Whole.{whole_length}
use Rattle.cg_cut.proofs.Wholes.{last_feed, last_other}
use Rattle.cg_cut.proofs.whole.length_in.Goals as goal

pub returns-then-last-eq10 : goal.returns-then-last-eq10
returns-then-last-eq10 c =
    let parts = c.in-Some.ensures.cases.0 in
    ap length parts ∙ sym (last_feed c.in-Some.front.now c.in-Some.last.now c.if-last-eq10.true) ∙ ap whole_length (sym parts) ∙ c.loop-last.invariant

pub loop-last-preserved : goal.loop-last-preserved
loop-last-preserved c =
    let parts = c.in-Some.ensures.cases.0 in
    sym (last_other c.in-Some.front.now c.in-Some.last.now c.if-last-eq10.false) ∙ ap whole_length (sym parts) ∙ c.loop-last.invariant
