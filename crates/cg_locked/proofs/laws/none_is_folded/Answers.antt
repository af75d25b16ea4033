use Rattle.cg_locked.proofs.Folding.{none_is_folded}
use Rattle.cg_locked.proofs.laws.none_is_folded.Goals as goal

pub returns : goal.returns
returns c = none_is_folded
