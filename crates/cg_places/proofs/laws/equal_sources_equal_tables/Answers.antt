use Rattle.cg_places.proofs.TableLaws.{equal_sources_equal_tables}
use Rattle.cg_places.proofs.laws.equal_sources_equal_tables.Goals as goal

pub returns : goal.returns
returns c = equal_sources_equal_tables
