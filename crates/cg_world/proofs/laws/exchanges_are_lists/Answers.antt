use Rattle.cg_world.proofs.ExchangeLaws.{exchanges_are_lists}
use Rattle.cg_world.proofs.laws.exchanges_are_lists.Goals as goal

pub returns : goal.returns
returns c = exchanges_are_lists
