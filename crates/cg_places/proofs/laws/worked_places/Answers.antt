use Rattle.cg_places.proofs.WorkedLemmas.{worked_places as worked}
use Rattle.cg_places.proofs.laws.worked_places.Goals as goal

pub returns : goal.returns
returns c = worked
