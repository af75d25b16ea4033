use Rattle.cg_places.proofs.PlaceLaws.{undisturbed_exchanges_equal}
use Rattle.cg_places.proofs.laws.undisturbed_exchanges_equal.Goals as goal

pub returns : goal.returns
returns c = undisturbed_exchanges_equal
