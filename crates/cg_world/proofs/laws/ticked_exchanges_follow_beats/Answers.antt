use Rattle.cg_world.proofs.ExchangeLaws.{ticked_exchanges_follow_beats}
use Rattle.cg_world.proofs.laws.ticked_exchanges_follow_beats.Goals as goal

pub returns : goal.returns
returns c = ticked_exchanges_follow_beats
