use Rattle.cg_places.proofs.PlaceLaws.{exchanges_are_lists}
use Rattle.cg_places.proofs.laws.exchanges_are_lists.Goals as goal

pub returns : goal.returns
returns c = exchanges_are_lists
