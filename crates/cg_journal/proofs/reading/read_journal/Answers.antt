use Rattle.cg_journal.proofs.reading.read_journal.Goals as goal

pub returns-in-Err-clause-read : goal.returns-in-Err-clause-read
returns-in-Err-clause-read g c = (c.in-Err.unread.line, c.in-Err.ensures.read)
