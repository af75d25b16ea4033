use Rattle.cg_journal.proofs.Fronts.{fronts_are_read}
use Rattle.cg_journal.proofs.laws.fronts_are_read.Goals as goal

pub returns : goal.returns
returns c = fronts_are_read
