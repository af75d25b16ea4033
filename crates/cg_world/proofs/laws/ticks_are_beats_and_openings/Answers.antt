use Rattle.cg_world.proofs.WorldLaws.{ticks_are_beats_and_openings}
use Rattle.cg_world.proofs.laws.ticks_are_beats_and_openings.Goals as goal

pub returns : goal.returns
returns c = ticks_are_beats_and_openings
