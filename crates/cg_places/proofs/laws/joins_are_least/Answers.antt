use Rattle.cg_places.proofs.PlaceLaws.{joins_are_least}
use Rattle.cg_places.proofs.laws.joins_are_least.Goals as goal

pub returns : goal.returns
returns c = joins_are_least
