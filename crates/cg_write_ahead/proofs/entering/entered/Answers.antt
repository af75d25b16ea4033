use Rattle.cg_write_ahead.proofs.Entries.{entry_untold, entry_begins}
use Rattle.cg_write_ahead.proofs.entering.entered.Goals as goal

pub returns-clause-entry : goal.returns-clause-entry
returns-clause-entry g c =
    let s = c.args.board.now in
    let done = c.enter.ensures in
    entry_untold g.N.Name.start c.args.seat.now c.args.event c.enter.new.seat.seen s.log c.enter.new.self.log s.history c.enter.new.self.history
    s.listed s.start s.replays (rw c.history.ensures.value at c.records-records.ensures.replayed) done.begins done.long done.seen _ _ c.enter.result done.whole done.err

pub returns-clause-begins : goal.returns-clause-begins
returns-clause-begins g c =
    entry_begins g.N.Name.start c.args.seat.now c.args.event c.enter.new.seat.seen c.enter.result (returns-clause-entry g c)
