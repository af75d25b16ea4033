use Rattle.cg_frames.proofs.LawLemmas.{third_is_layout}
use Rattle.cg_frames.proofs.laws.layout_3_is_one.Goals as goal

pub returns-clause-layout : goal.returns-clause-layout
returns-clause-layout c = third_is_layout
