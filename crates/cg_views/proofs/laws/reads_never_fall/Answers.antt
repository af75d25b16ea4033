use Rattle.cg_views.proofs.Reading.{reads_never_fall}
use Rattle.cg_views.proofs.laws.reads_never_fall.Goals as goal

pub returns : goal.returns
returns c = reads_never_fall
