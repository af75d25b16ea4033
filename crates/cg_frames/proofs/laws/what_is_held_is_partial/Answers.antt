use Rattle.cg_frames.proofs.FeedingLemmas.{held_partial}
use Rattle.cg_frames.proofs.laws.what_is_held_is_partial.Goals as goal

pub returns : goal.returns
returns c = held_partial
