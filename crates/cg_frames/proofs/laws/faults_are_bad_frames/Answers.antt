use Rattle.cg_frames.proofs.FaultLemmas.{faults_are_bad}
use Rattle.cg_frames.proofs.laws.faults_are_bad_frames.Goals as goal

pub returns : goal.returns
returns c = faults_are_bad
