use Rattle.cg_audit.proofs.HeadlineOfRuns.{runs_have_a_world}
use Rattle.cg_audit.proofs.laws.runs_have_a_world.Goals as goal

pub returns : goal.returns
returns c = runs_have_a_world
