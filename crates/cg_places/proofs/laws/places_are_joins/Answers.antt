use Rattle.cg_places.proofs.PlaceLaws.{places_are_joins}
use Rattle.cg_places.proofs.laws.places_are_joins.Goals as goal

pub returns : goal.returns
returns c = places_are_joins
