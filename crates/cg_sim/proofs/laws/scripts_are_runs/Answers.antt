use Rattle.cg_sim.proofs.RunLemmas.{is_run}
use Rattle.cg_sim.proofs.laws.scripts_are_runs.Goals as goal

pub returns : goal.returns
returns c = is_run
