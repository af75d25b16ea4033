use Rattle.std.proofs.Common.{ap, ◌∙◌}
use Rattle.cg_locked.specs.Seat.{SeatState}
use Rattle.cg_ahead_seats.specs.Gates.{AheadValue}
use Rattle.cg_agent.proofs.SeatKeeping.{lines_keep}
use Rattle.cg_agent.proofs.lines.do_lines.Goals as goal

pub returns-clause-parts : goal.returns-clause-parts
returns-clause-parts g c =
    let kept = lines_keep g.N.Name.start g.N.Naming.opening.own (λ n. Unit {0}) c.new-gate.result c.do_input.new.gate c.do_input.ensures in
    ap (λ (s : SeatState). s.parts) c.into_seat.ensures ∙ kept.1 ∙ ap (λ (h : AheadValue). h.seat.parts) c.new-gate.ensures
