use Rattle.cg_world.proofs.ExchangeLaws.{undisturbed_exchanges_merge}
use Rattle.cg_world.proofs.laws.undisturbed_exchanges_merge.Goals as goal

pub returns : goal.returns
returns c = undisturbed_exchanges_merge
