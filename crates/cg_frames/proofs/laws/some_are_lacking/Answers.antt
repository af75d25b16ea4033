use Rattle.cg_frames.proofs.FrontLemmas.{some_lacking}
use Rattle.cg_frames.proofs.laws.some_are_lacking.Goals as goal

pub returns : goal.returns
returns c = some_lacking
