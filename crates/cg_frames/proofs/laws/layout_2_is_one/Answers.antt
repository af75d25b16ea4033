use Rattle.cg_frames.proofs.LawLemmas.{second_is_layout}
use Rattle.cg_frames.proofs.laws.layout_2_is_one.Goals as goal

pub returns-clause-layout : goal.returns-clause-layout
returns-clause-layout c = second_is_layout
