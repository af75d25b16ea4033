use Rattle.cg_audit.proofs.RunLaws.{orders_are_runs}
use Rattle.cg_audit.proofs.laws.orders_are_runs.Goals as goal

pub returns : goal.returns
returns c = orders_are_runs
