use Rattle.cg_places.proofs.PlaceLaws.{exchanges_reach_the_join}
use Rattle.cg_places.proofs.laws.exchanges_reach_the_join.Goals as goal

pub returns : goal.returns
returns c = exchanges_reach_the_join
