use Rattle.cg_world.proofs.WorldLaws.{tables_are_the_join}
use Rattle.cg_world.proofs.laws.tables_are_the_join.Goals as goal

pub returns : goal.returns
returns c = tables_are_the_join
