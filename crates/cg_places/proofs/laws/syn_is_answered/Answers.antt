use Rattle.cg_places.proofs.MessageLaws.{syn_is_answered}
use Rattle.cg_places.proofs.laws.syn_is_answered.Goals as goal

pub returns : goal.returns
returns c = syn_is_answered
