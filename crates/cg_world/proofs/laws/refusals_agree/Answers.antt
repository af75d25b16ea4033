use Rattle.cg_world.proofs.WorldLaws.{refusals_agree}
use Rattle.cg_world.proofs.laws.refusals_agree.Goals as goal

pub returns : goal.returns
returns c = refusals_agree
