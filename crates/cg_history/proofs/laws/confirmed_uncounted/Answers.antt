use Rattle.cg_history.proofs.Folds.{confirmed_uncounted}
use Rattle.cg_history.proofs.laws.confirmed_uncounted.Goals as goal

pub returns : goal.returns
returns c = confirmed_uncounted
