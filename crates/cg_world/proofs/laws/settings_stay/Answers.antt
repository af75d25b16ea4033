use Rattle.cg_world.proofs.SingleActions.{settings_stay}
use Rattle.cg_world.proofs.laws.settings_stay.Goals as goal

pub returns : goal.returns
returns c = settings_stay
