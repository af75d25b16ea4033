use Rattle.cg_core.proofs.ArrivalLemmas.{windows_show_all_taken}
use Rattle.cg_core.proofs.laws.windows_show_all_taken.Goals as goal

pub returns : goal.returns
returns c = windows_show_all_taken
