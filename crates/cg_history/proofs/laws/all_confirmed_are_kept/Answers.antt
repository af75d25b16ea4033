use Rattle.cg_history.proofs.Covering.{all_confirmed_are_kept}
use Rattle.cg_history.proofs.laws.all_confirmed_are_kept.Goals as goal

pub returns : goal.returns
returns c = all_confirmed_are_kept
