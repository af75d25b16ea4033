use Rattle.cg_world.proofs.WorldLaws.{merges_of_nodes_are_the_join}
use Rattle.cg_world.proofs.laws.merges_of_nodes_are_the_join.Goals as goal

pub returns : goal.returns
returns c = merges_of_nodes_are_the_join
