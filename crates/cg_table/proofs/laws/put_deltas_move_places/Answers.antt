use Rattle.cg_table.proofs.PlaceLaws.{put_deltas_move_places}
use Rattle.cg_table.proofs.laws.put_deltas_move_places.Goals as goal

pub returns : goal.returns
returns c = put_deltas_move_places
