use Rattle.cg_places.proofs.PlaceLaws.{histories_continue}
use Rattle.cg_places.proofs.laws.histories_continue.Goals as goal

pub returns : goal.returns
returns c = histories_continue
