use Rattle.cg_places.proofs.FollowLemmas.{tables_follow}
use Rattle.cg_places.proofs.laws.tables_follow.Goals as goal

pub returns : goal.returns
returns c = tables_follow
