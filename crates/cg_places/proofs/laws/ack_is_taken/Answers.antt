use Rattle.cg_places.proofs.MessageLaws.{ack_is_taken}
use Rattle.cg_places.proofs.laws.ack_is_taken.Goals as goal

pub returns : goal.returns
returns c = ack_is_taken
