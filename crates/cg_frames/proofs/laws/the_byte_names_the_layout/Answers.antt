use Rattle.cg_frames.proofs.ChosenLemmas.{chooses}
use Rattle.cg_frames.proofs.laws.the_byte_names_the_layout.Goals as goal

pub returns : goal.returns
returns c = chooses
