use Rattle.cg_journal.proofs.ReadAgain.{read_again}
use Rattle.cg_journal.proofs.laws.read_histories_are_read_again.Goals as goal

pub returns : goal.returns
returns c = read_again
