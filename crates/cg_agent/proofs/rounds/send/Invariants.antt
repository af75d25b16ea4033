-- Each peer so far was dialed.
use Rattle.std.specs.Prelude.{take}
use Rattle.cg_agent.specs.Work.{SentTo}
use Rattle.cg_agent.proofs.rounds.send.Given as goal

abbrev pub invariant-loop-peer : goal.invariant-loop-peer
invariant-loop-peer g l =
    SentTo g.N.Name.start g.N.Naming.opening.own g.D.Reader.Read.remaining g.D.Writer.Write.contents g.D.Dial.dials
    (g.C.Milliseconds.shows l.site.clock) l.syn (take l.peer-index l.peer-items) (l.initial.dialer, l.initial.gate) (l.dialer, l.gate)
