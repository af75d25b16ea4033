use Rattle.cg_cut.proofs.Texts.{cut_journals_are_read}
use Rattle.cg_cut.proofs.laws.cut_journals_are_read.Goals as goal

pub returns : goal.returns
returns c = cut_journals_are_read
