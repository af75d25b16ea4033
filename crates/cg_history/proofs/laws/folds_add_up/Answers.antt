use Rattle.cg_history.proofs.Folds.{folds_add_up}
use Rattle.cg_history.proofs.laws.folds_add_up.Goals as goal

pub returns : goal.returns
returns c = folds_add_up
