use Rattle.cg_places.proofs.MessageLaws.{syn_says_places}
use Rattle.cg_places.proofs.laws.syn_says_places.Goals as goal

pub returns : goal.returns
returns c = syn_says_places
