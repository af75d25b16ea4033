use Rattle.std.proofs.Common.{ap, ◌∙◌}
use Rattle.cg_locked.specs.Seat.{SeatState}
use Rattle.cg_ahead_seats.specs.Gates.{AheadValue}
use Rattle.cg_agent.proofs.SeatKeeping.{answered_keeps}
use Rattle.cg_agent.proofs.receivers.answer_all.Goals as goal

pub returns-clause-parts : goal.returns-clause-parts
returns-clause-parts g c =
    let kept = answered_keeps g.N.Name.start g.N.Naming.opening.own (g.C.Milliseconds.shows c.args.site.now.clock) g.L.Reader.Read.remaining g.L.Writer.Write.contents g.L.Listen.accepts
    (c.args.listener, c.new-gate.result) (c.answer_at.new.listener, c.answer_at.new.gate) c.answer_at.ensures in
    ap (λ (s : SeatState). s.parts) c.into_seat.ensures ∙ kept.1 ∙ ap (λ (h : AheadValue). h.seat.parts) c.new-gate.ensures
