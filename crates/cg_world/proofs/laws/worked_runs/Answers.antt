use Rattle.cg_world.proofs.WorkedRuns.{worked_runs}
use Rattle.cg_world.proofs.laws.worked_runs.Goals as goal

pub returns : goal.returns
returns c = worked_runs
