use Rattle.cg_frames.proofs.OnlyLemmas.{splits_only}
use Rattle.cg_frames.proofs.laws.nothing_else_is_spelled.Goals as goal

pub returns : goal.returns
returns c = splits_only
