use Rattle.cg_journal.proofs.Writable.{writable_histories_go_on}
use Rattle.cg_journal.proofs.laws.writable_histories_go_on.Goals as goal

pub returns : goal.returns
returns c = writable_histories_go_on
