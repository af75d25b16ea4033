use Rattle.cg_world.proofs.WorldLaws.{equal_sets_give_equal_tables}
use Rattle.cg_world.proofs.laws.equal_sets_give_equal_tables.Goals as goal

pub returns : goal.returns
returns c = equal_sets_give_equal_tables
