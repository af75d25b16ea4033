use Rattle.cg_views.proofs.Reading.{told_sets_are_read}
use Rattle.cg_views.proofs.laws.told_sets_are_read.Goals as goal

pub returns : goal.returns
returns c = told_sets_are_read
