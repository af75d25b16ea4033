use Rattle.std.proofs.Common.{take, length-take, refl, inl, inr, arith}
use Rattle.cg_links.proofs.ReadingLemmas.{reading_none, reading_more, reading_stops, reading_stopped, reading_ends, reading_fails}
use Rattle.cg_links.proofs.lines.take_pieces.Goals as goal

pub loop-init : goal.loop-init
loop-init g c = reading_none _ _ _ _ _ _ c.requires.none

pub returns-in-Ok-eq0-clause-lines : goal.returns-in-Ok-eq0-clause-lines
returns-in-Ok-eq0-clause-lines g c =
    let bytes = rw c.in-Ok-eq0.field-0-test at c.in-Ok-eq0.ensures.bytes in
    reading_ends _ _ _ _ _ _ _ _ _ _ _ _ _ _ c.take_last.result c.loop.invariant bytes.0 (bytes.1 refl (omega arith)) c.in-Ok-eq0.ensures.counts
    (rw c.deref.ensures.value at c.take_last.ensures)

pub returns-in-Ok-Stop-clause-lines : goal.returns-in-Ok-Stop-clause-lines
returns-in-Ok-Stop-clause-lines g c =
    inr (reading_stopped _ _ _ _ _ _ _ (take c.in-Ok.n c.read.new.buf) _ _ _ _ _ _ _ _ c.loop.invariant c.in-Ok.ensures.bytes.0 c.in-Ok.ensures.counts
    (rw c.in-Ok-Stop.field-0-is at c.in-Ok-Stop.ensures.taken) refl)

pub returns-in-Err-take_piece-clause-lines : goal.returns-in-Err-take_piece-clause-lines
returns-in-Err-take_piece-clause-lines g c =
    let cut = length-take c.in-Ok.n c.read.new.buf in
    inl (reading_stops _ _ _ _ _ _ (take c.in-Ok.n c.read.new.buf) _ _ _ _ _ _ _ _ _ c.loop.invariant c.in-Ok.ensures.bytes.0 (omega (arith, cut)) c.in-Ok.ensures.counts
    c.in-Err-take_piece.ensures.taken refl)

pub returns-in-Err-clause-lines : goal.returns-in-Err-clause-lines
returns-in-Err-clause-lines g c = inr (inr (reading_fails _ _ _ _ _ _ _ _ _ _ _ _ _ c.loop.invariant c.in-Err.ensures.bytes c.in-Err.ensures.counts refl))

pub loop-preserved : goal.loop-preserved
loop-preserved g c =
    let more = c.in-Ok-More.field-0-is in
    reading_more _ _ _ _ _ _ _ (take c.in-Ok.n c.read.new.buf) _ _ _ _ _ _ _ _ c.loop.invariant c.in-Ok.ensures.bytes.0 c.in-Ok.ensures.counts c.in-Ok.ensures.calls
    (rw more at c.in-Ok-More.ensures.taken) (c.in-Ok-More.ensures.unended more) refl
