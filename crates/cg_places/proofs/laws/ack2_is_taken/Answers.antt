use Rattle.cg_places.proofs.MessageLaws.{ack2_is_taken}
use Rattle.cg_places.proofs.laws.ack2_is_taken.Goals as goal

pub returns : goal.returns
returns c = ack2_is_taken
