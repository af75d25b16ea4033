use Rattle.cg_audit.proofs.RunLaws.{stuck_lives_are_no_run}
use Rattle.cg_audit.proofs.laws.stuck_lives_are_no_run.Goals as goal

pub returns : goal.returns
returns c = stuck_lives_are_no_run
