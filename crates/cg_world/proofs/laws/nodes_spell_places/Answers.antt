use Rattle.cg_world.proofs.WorldLaws.{nodes_spell_places}
use Rattle.cg_world.proofs.laws.nodes_spell_places.Goals as goal

pub returns : goal.returns
returns c = nodes_spell_places
