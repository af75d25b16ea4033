use Rattle.cg_world.proofs.WorldLaws.{deliveries_find_room}
use Rattle.cg_world.proofs.laws.deliveries_find_room.Goals as goal

pub returns : goal.returns
returns c = deliveries_find_room
