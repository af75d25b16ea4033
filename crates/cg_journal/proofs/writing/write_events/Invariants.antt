use Rattle.std.proofs.Common.{take}
use Rattle.cg_journal.specs.Text.{event_lines}
use Rattle.cg_journal.specs.Written.{WritesAll}
use Rattle.cg_journal.proofs.writing.write_events.Given as goal

abbrev pub invariant-loop-record : goal.invariant-loop-record
invariant-loop-record g l =
    WritesAll (g.W.Write.contents l.initial.writer.link) (g.W.Write.contents l.writer.link) l.initial.writer l.writer (event_lines (take l.record-index l.records))
