use Rattle.cg_places.proofs.TableLaws.{tables_find_room}
use Rattle.cg_places.proofs.laws.tables_find_room.Goals as goal

pub returns : goal.returns
returns c = tables_find_room
