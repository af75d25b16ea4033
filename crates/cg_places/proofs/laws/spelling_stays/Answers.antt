use Rattle.cg_places.proofs.FollowLemmas.{spelling_stays}
use Rattle.cg_places.proofs.laws.spelling_stays.Goals as goal

pub returns : goal.returns
returns c = spelling_stays
