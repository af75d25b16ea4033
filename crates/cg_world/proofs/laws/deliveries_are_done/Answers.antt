use Rattle.cg_world.proofs.WorldLaws.{deliveries_are_done}
use Rattle.cg_world.proofs.laws.deliveries_are_done.Goals as goal

pub returns : goal.returns
returns c = deliveries_are_done
