use Rattle.cg_world.proofs.HeadlineLaws.{headline}
use Rattle.cg_world.proofs.laws.headline.Goals as goal

pub returns : goal.returns
returns c = headline
