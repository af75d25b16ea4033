use Rattle.cg_entry.proofs.HistoryLaws.{entries_rise}
use Rattle.cg_entry.proofs.laws.entries_rise.Goals as goal

pub returns : goal.returns
returns c = entries_rise
