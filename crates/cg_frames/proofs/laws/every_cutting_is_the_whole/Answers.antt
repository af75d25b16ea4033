use Rattle.cg_frames.proofs.FeedingLemmas.{from_nothing}
use Rattle.cg_frames.proofs.laws.every_cutting_is_the_whole.Goals as goal

pub returns : goal.returns
returns c = from_nothing
