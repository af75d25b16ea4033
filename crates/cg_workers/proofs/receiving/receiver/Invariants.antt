-- Each connection so far was answered.
use Rattle.std.proofs.Common.{◌≡◌}
use Rattle.cg_workers.specs.Workers.{AllCame}
use Rattle.cg_workers.proofs.receiving.receiver.Given as goal

abbrev pub invariant-loop : goal.invariant-loop
invariant-loop g l = (l.came ≡ l.counter)
    × AllCame g.G.Gate.does g.G.Gate.refuses g.G.Gate.stays g.L.Reader.Read.remaining g.L.Writer.Write.contents g.L.Listen.accepts
    (g.C.Milliseconds.shows l.clock) l.came (l.initial.listener, l.initial.gate) (l.listener, l.gate)
