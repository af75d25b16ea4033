use Rattle.cg_world.proofs.ExchangeLaws.{exchanges_end_at_the_join}
use Rattle.cg_world.proofs.laws.exchanges_end_at_the_join.Goals as goal

pub returns : goal.returns
returns c = exchanges_end_at_the_join
