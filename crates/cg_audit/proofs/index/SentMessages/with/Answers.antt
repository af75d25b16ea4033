use Rattle.cg_audit.proofs.PushLemmas.{same_with}
use Rattle.cg_audit.proofs.index.SentMessages.with.Goals as goal

pub returns-then-contains : goal.returns-then-contains
returns-then-contains c = same_with _ _ (c.contains.ensures.0 c.if-contains.true)
