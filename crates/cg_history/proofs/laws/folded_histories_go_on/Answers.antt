use Rattle.cg_history.proofs.Folds.{folded_histories_go_on}
use Rattle.cg_history.proofs.laws.folded_histories_go_on.Goals as goal

pub returns : goal.returns
returns c = folded_histories_go_on
