use Rattle.cg_world.proofs.WorldLaws.{reached_worlds}
use Rattle.cg_world.proofs.laws.reached_worlds.Goals as goal

pub returns : goal.returns
returns c = reached_worlds
