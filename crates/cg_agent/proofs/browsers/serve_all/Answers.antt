use Rattle.std.proofs.Common.{ap, ◌∙◌}
use Rattle.cg_locked.specs.Seat.{SeatState}
use Rattle.cg_ahead_seats.specs.Gates.{AheadValue}
use Rattle.cg_web.specs.Serving.{WebValue}
use Rattle.cg_agent.proofs.SeatKeeping.{requests_keep}
use Rattle.cg_agent.proofs.browsers.serve_all.Goals as goal

pub returns-clause-parts : goal.returns-clause-parts
returns-clause-parts g c =
    let kept = requests_keep g.N.Name.start g.N.Naming.opening.own (λ n. Unit {0}) c.new-web.result.gate c.serve_at.new.web.gate c.serve_at.ensures in
    ap (λ (s : SeatState). s.parts) c.into_seat.ensures ∙ kept.1 ∙ ap (λ (w : WebValue). w.gate.seat.parts) c.new-web.ensures ∙ ap (λ (h : AheadValue). h.seat.parts) c.new-gate.ensures
