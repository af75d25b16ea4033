use Rattle.cg_entry.proofs.HistoryLaws.{versions_name_entries}
use Rattle.cg_entry.proofs.laws.versions_name_entries.Goals as goal

pub returns : goal.returns
returns c = versions_name_entries
