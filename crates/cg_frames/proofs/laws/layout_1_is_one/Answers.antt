use Rattle.cg_frames.proofs.LawLemmas.{first_is_layout}
use Rattle.cg_frames.proofs.laws.layout_1_is_one.Goals as goal

pub returns-clause-layout : goal.returns-clause-layout
returns-clause-layout c = first_is_layout
