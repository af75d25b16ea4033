use Rattle.cg_history.proofs.OneMore.{records_are_steps_by_places}
use Rattle.cg_history.proofs.laws.records_are_steps_by_places.Goals as goal

pub returns : goal.returns
returns c = records_are_steps_by_places
