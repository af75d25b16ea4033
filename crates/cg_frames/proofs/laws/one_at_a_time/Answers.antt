use Rattle.cg_frames.proofs.FeedingLemmas.{at_most_one}
use Rattle.cg_frames.proofs.laws.one_at_a_time.Goals as goal

pub returns : goal.returns
returns c = at_most_one
