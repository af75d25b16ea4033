use Rattle.cg_places.proofs.PlaceLaws.{actions_make_worlds}
use Rattle.cg_places.proofs.laws.actions_make_worlds.Goals as goal

pub returns : goal.returns
returns c = actions_make_worlds
