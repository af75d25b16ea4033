use Rattle.cg_world.proofs.TakenLaws.{outcomes_tell_what_is_taken}
use Rattle.cg_world.proofs.laws.outcomes_tell_what_is_taken.Goals as goal

pub returns : goal.returns
returns c = outcomes_tell_what_is_taken
