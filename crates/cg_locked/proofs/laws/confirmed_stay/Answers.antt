use Rattle.cg_locked.proofs.Confirming.{confirmed_stay}
use Rattle.cg_locked.proofs.laws.confirmed_stay.Goals as goal

pub returns : goal.returns
returns c = confirmed_stay
