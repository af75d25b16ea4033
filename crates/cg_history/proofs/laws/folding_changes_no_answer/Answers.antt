use Rattle.cg_history.proofs.Folds.{folding_changes_no_answer}
use Rattle.cg_history.proofs.laws.folding_changes_no_answer.Goals as goal

pub returns : goal.returns
returns c = folding_changes_no_answer
