use Rattle.cg_world.proofs.SingleActions.{nodes_hear_by_deliveries}
use Rattle.cg_world.proofs.laws.nodes_hear_by_deliveries.Goals as goal

pub returns : goal.returns
returns c = nodes_hear_by_deliveries
