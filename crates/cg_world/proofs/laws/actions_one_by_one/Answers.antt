use Rattle.cg_world.proofs.WorldLaws.{actions_one_by_one}
use Rattle.cg_world.proofs.laws.actions_one_by_one.Goals as goal

pub returns : goal.returns
returns c = actions_one_by_one
