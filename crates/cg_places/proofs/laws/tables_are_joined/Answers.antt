use Rattle.cg_places.proofs.TableLaws.{tables_are_joined}
use Rattle.cg_places.proofs.laws.tables_are_joined.Goals as goal

pub returns : goal.returns
returns c = tables_are_joined
