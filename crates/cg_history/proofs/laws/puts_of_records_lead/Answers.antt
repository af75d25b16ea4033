use Rattle.cg_history.proofs.PutsOfRecords.{puts_of_records_lead}
use Rattle.cg_history.proofs.laws.puts_of_records_lead.Goals as goal

pub returns : goal.returns
returns c = puts_of_records_lead
