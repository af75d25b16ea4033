use Rattle.cg_places.proofs.PlaceLaws.{equal_sources_equal_places}
use Rattle.cg_places.proofs.laws.equal_sources_equal_places.Goals as goal

pub returns : goal.returns
returns c = equal_sources_equal_places
