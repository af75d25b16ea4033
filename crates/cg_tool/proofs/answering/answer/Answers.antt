use Rattle.cg_tool.proofs.Honest.{honest}
use Rattle.cg_tool.proofs.answering.answer.Goals as goal

pub returns-clause-honest : goal.returns-clause-honest
returns-clause-honest g c = honest _ _ _ _ _ _ _ _ _ _ _ c.answer_links.ensures.answered.2 c.answer_links.ensures.answered.3
