use Rattle.std.proofs.Common.{take}
use Rattle.std.specs.List.{AllByRecursion}
use Rattle.cg_journal.specs.Contents.{IsEvent}
use Rattle.cg_journal.proofs.history.show_events.Given as goal

abbrev pub invariant-loop-record : goal.invariant-loop-record
invariant-loop-record l = AllByRecursion (λ r. IsEvent r.event) (take l.record-index l.records)
