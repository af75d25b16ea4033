use Rattle.cg_frames.proofs.FeedingLemmas.{pieces_add_up}
use Rattle.cg_frames.proofs.laws.pieces_add_up.Goals as goal

pub returns : goal.returns
returns c = pieces_add_up
