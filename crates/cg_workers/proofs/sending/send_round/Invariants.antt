-- Each peer so far was dialed.
use Rattle.std.specs.Prelude.{take}
use Rattle.cg_workers.specs.Each.{Each}
use Rattle.cg_workers.specs.Workers.{Reached}
use Rattle.cg_workers.proofs.sending.send_round.Given as goal

abbrev pub invariant-loop-peer : goal.invariant-loop-peer
invariant-loop-peer g l =
    Each (Reached g.G.Gate.does g.G.Gate.refuses g.G.Gate.stays g.D.Reader.Read.remaining g.D.Writer.Write.contents g.D.Dial.dials
    (g.C.Milliseconds.shows l.clock) l.round.syn) (take l.peer-index l.peer-items) (l.initial.dialer, l.initial.gate) (l.dialer, l.gate)
