use Rattle.cg_audit.proofs.RunLaws.{heads_can_not_go}
use Rattle.cg_audit.proofs.laws.heads_can_not_go.Goals as goal

pub returns : goal.returns
returns c = heads_can_not_go
