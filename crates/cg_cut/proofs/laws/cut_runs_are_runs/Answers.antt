use Rattle.cg_cut.proofs.Runs.{cut_runs_are_runs}
use Rattle.cg_cut.proofs.laws.cut_runs_are_runs.Goals as goal

pub returns : goal.returns
returns c = cut_runs_are_runs
