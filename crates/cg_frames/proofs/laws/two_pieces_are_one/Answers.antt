use Rattle.cg_frames.proofs.FeedingLemmas.{fed_twice}
use Rattle.cg_frames.proofs.laws.two_pieces_are_one.Goals as goal

pub returns : goal.returns
returns c = fed_twice
