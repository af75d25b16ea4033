-- Each kind so far had its turn, and the message of its reply was written.
use Rattle.std.proofs.Common.{◌≡◌, List, [], length}
use Rattle.cg_engine.specs.Exchanged.{Turn, Turned, AllWritten}
use Rattle.cg_engine.proofs.exchange.take_turns.Given as goal

abbrev pub invariant-loop-kind : goal.invariant-loop-kind
invariant-loop-kind g l = (turns : List Turn) × (length turns ≡ l.kind-index) × (l.done ≡ l.kind-index)
    × Turned g.G.Gate.does l.kinds l.now (g.R.Read.remaining l.initial.reader.link) l.initial.reader l.initial.gate turns (g.R.Read.remaining l.reader.link) l.reader l.gate
    × AllWritten [] (g.W.Write.contents l.initial.writer.link) l.initial.writer turns (g.W.Write.contents l.writer.link) l.writer
