-- Each turn so far was done.
use Rattle.cg_agent.specs.Work.{TurnedOn}
use Rattle.cg_agent.proofs.rounds.turn_at.Given as goal

abbrev pub invariant-loop : goal.invariant-loop
invariant-loop g l =
    TurnedOn g.N.Name.start g.N.Naming.opening.own g.D.Reader.Read.remaining g.D.Writer.Write.contents g.D.Dial.dials
    (g.C.Milliseconds.shows l.site.clock) (g.G.Rng.stream l.initial.generator, (l.initial.dialer, l.initial.gate)) (g.G.Rng.stream l.generator, (l.dialer, l.gate))
