use Rattle.cg_frames.proofs.SplittingLemmas.{frames_split}
use Rattle.cg_frames.proofs.laws.all_is_spelled.Goals as goal

pub returns : goal.returns
returns c = frames_split
