use Rattle.cg_history.proofs.Folds.{confirmed_before_a_fold}
use Rattle.cg_history.proofs.laws.confirmed_before_a_fold.Goals as goal

pub returns : goal.returns
returns c = confirmed_before_a_fold
