use Rattle.cg_frames.proofs.LawLemmas.{no_spelling_begins_another}
use Rattle.cg_frames.proofs.laws.no_spelling_begins_another.Goals as goal

pub returns : goal.returns
returns c = no_spelling_begins_another
