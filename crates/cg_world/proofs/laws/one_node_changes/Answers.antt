use Rattle.cg_world.proofs.SingleActions.{one_node_changes}
use Rattle.cg_world.proofs.laws.one_node_changes.Goals as goal

pub returns : goal.returns
returns c = one_node_changes
