use Rattle.cg_history.proofs.Folds.{confirmed_past_a_fold}
use Rattle.cg_history.proofs.laws.confirmed_past_a_fold.Goals as goal

pub returns : goal.returns
returns c = confirmed_past_a_fold
