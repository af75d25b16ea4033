use Rattle.cg_core.proofs.NodeLaws.{removals_put_their_tombstone}
use Rattle.cg_core.proofs.laws.removals_put_their_tombstone.Goals as goal

pub returns : goal.returns
returns c = removals_put_their_tombstone
