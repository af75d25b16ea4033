use Rattle.std.proofs.Common.{ap, ◌∙◌}
use Rattle.cg_locked.specs.Seat.{SeatState}
use Rattle.cg_ahead_seats.specs.Gates.{AheadValue}
use Rattle.cg_agent.proofs.SeatKeeping.{turned_keeps}
use Rattle.cg_agent.proofs.rounds.do_rounds.Goals as goal

pub returns-clause-parts : goal.returns-clause-parts
returns-clause-parts g c =
    let kept = turned_keeps g.N.Name.start g.N.Naming.opening.own (g.C.Milliseconds.shows c.args.site.now.clock) g.D.Reader.Read.remaining g.D.Writer.Write.contents g.D.Dial.dials
    _ _ c.turn_at.ensures in
    ap (λ (s : SeatState). s.parts) c.into_seat.ensures ∙ kept.1 ∙ ap (λ (h : AheadValue). h.seat.parts) c.new-gate.ensures
