use Rattle.cg_entry.proofs.HistoryLaws.{histories_grow}
use Rattle.cg_entry.proofs.laws.histories_grow.Goals as goal

pub returns : goal.returns
returns c = histories_grow
