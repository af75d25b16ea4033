use Rattle.cg_links.proofs.ReadingLemmas.{taken_to_the_end}
use Rattle.cg_journal.proofs.ReadLemmas.{history_read, no_history, failed}
use Rattle.cg_journal.proofs.reading.read_journal_telling.Goals as goal

pub returns-in-Err-clause-read : goal.returns-in-Err-clause-read
returns-in-Err-clause-read g c = failed _ _ _ _ _ _ _ c.unread_behind.ensures.line c.unread_behind.ensures.fault c.in-Err.ensures.lines

pub returns-in-Some-clause-read : goal.returns-in-Some-clause-read
returns-in-Some-clause-read g c = history_read _ _ _ _ _ _ (taken_to_the_end _ _ _ _ _ _ _ _ c.in-Ok.ensures.lines) c.in-Some.is

pub returns-in-None-clause-read : goal.returns-in-None-clause-read
returns-in-None-clause-read g c =
    no_history _ _ _ _ _ _ (taken_to_the_end _ _ _ _ _ _ _ _ c.in-Ok.ensures.lines) c.in-None.is c.unread_behind-in-None.ensures.line c.unread_behind-in-None.ensures.fault
