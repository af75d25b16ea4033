-- Each connection so far was answered.
use Rattle.cg_agent.proofs.MoreWork.{SomeCame}
use Rattle.cg_agent.proofs.receivers.answer_at.Given as goal

abbrev pub invariant-loop : goal.invariant-loop
invariant-loop g l =
    SomeCame g.N.Name.start g.N.Naming.opening.own g.L.Reader.Read.remaining g.L.Writer.Write.contents g.L.Listen.accepts
    (g.C.Milliseconds.shows l.site.clock) (l.initial.listener, l.initial.gate) (l.listener, l.gate)
