use Rattle.cg_world.proofs.SingleActions.{replies_are_of_steps}
use Rattle.cg_world.proofs.laws.replies_are_of_steps.Goals as goal

pub returns : goal.returns
returns c = replies_are_of_steps
