use Rattle.cg_places.proofs.PlaceRules.{rules_stand}
use Rattle.cg_places.proofs.laws.rules_stand.Goals as goal

pub returns : goal.returns
returns c = rules_stand
