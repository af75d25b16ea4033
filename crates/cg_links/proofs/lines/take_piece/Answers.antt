use Rattle.std.proofs.Common.{sym, inr, arith}
use Rattle.cg_links.proofs.LineLemmas.{cut_shorter}
use Rattle.cg_links.proofs.TakenLemmas.{taking_none, taking_more, taking_all, taking_short, taking_kept, taking_stops, taking_ends}
use Rattle.cg_links.proofs.lines.take_piece.Goals as goal

pub loop-part-init : goal.loop-part-init
loop-part-init g c = taking_none _ _ _ _ _

pub returns-in-Ok-Stop-clause-taken : goal.returns-in-Ok-Stop-clause-taken
returns-in-Ok-Stop-clause-taken g c =
    taking_ends _ _ _ _ _ _ _ _ _ _ (c.in-Some.part.now, c.in-Some.behind.now) c.loop-part.invariant
    (sym (rw c.in-Some.is at c.cut.ensures)) (rw c.in-Ok-Stop.field-0-is at c.in-Ok-Stop.ensures.taken)

pub returns-in-Err-clause-taken : goal.returns-in-Err-clause-taken
returns-in-Err-clause-taken g c =
    taking_stops _ _ _ _ _ _ _ _ _ (c.in-Some.part.now, c.in-Some.behind.now) _ c.loop-part.invariant
    (sym (rw c.in-Some.is at c.cut.ensures)) c.in-Err.ensures.taken

pub loop-part-smaller : goal.loop-part-smaller
loop-part-smaller g c =
    let less = cut_shorter c.loop-part.rest.now (c.in-Some.part.now, c.in-Some.behind.now) (sym (rw c.in-Some.is at c.cut.ensures)) in
    omega (arith, less)

pub loop-part-preserved : goal.loop-part-preserved
loop-part-preserved g c =
    rw c.in-Ok-More.ensures.none
    (taking_more _ _ _ _ _ _ _ _ _ (c.in-Some.part.now, c.in-Some.behind.now) c.loop-part.invariant
    (sym (rw c.in-Some.is at c.cut.ensures)) (rw c.in-Ok-More.field-0-is at c.in-Ok-More.ensures.taken))

pub returns-in-Ok-clause-taken : goal.returns-in-Ok-clause-taken
returns-in-Ok-clause-taken g c = taking_all _ _ _ _ _ _ _ _ c.loop-part.invariant (sym (rw c.in_default.is at c.cut.ensures))

pub returns-in-Ok-clause-unended : goal.returns-in-Ok-clause-unended
returns-in-Ok-clause-unended g c = λ _.
    taking_kept _ _ _ _ _ _ _ _ _ c.loop-part.invariant (sym (rw c.in_default.is at c.cut.ensures)) c.in-Ok.ensures.ok

pub returns-in-Err-hold-clause-taken : goal.returns-in-Err-hold-clause-taken
returns-in-Err-hold-clause-taken g c = inr (taking_short _ _ _ _ _ _ _ _ _ c.loop-part.invariant c.in-Err-hold.ensures.err)
