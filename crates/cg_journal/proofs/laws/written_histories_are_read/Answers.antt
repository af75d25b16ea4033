use Rattle.cg_journal.proofs.HistoryRead.{histories_read}
use Rattle.cg_journal.proofs.laws.written_histories_are_read.Goals as goal

pub returns : goal.returns
returns c = histories_read
