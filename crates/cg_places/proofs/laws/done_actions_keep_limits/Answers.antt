use Rattle.cg_places.proofs.PlaceLaws.{done_actions_keep_limits}
use Rattle.cg_places.proofs.laws.done_actions_keep_limits.Goals as goal

pub returns : goal.returns
returns c = done_actions_keep_limits
