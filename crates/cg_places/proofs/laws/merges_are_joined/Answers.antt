use Rattle.cg_places.proofs.TableLaws.{merges_are_joined}
use Rattle.cg_places.proofs.laws.merges_are_joined.Goals as goal

pub returns : goal.returns
returns c = merges_are_joined
