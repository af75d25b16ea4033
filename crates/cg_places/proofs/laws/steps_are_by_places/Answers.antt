use Rattle.cg_places.proofs.StepLaws.{steps_are_by_places as by_places}
use Rattle.cg_places.proofs.laws.steps_are_by_places.Goals as goal

pub returns : goal.returns
returns c = by_places
