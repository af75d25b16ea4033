use Rattle.cg_types.proofs.KeyLaws.{each_has_its_name}
use Rattle.cg_types.proofs.laws.keys_have_names_of_their_own.Goals as goal

pub returns : goal.returns
returns c = each_has_its_name
