use Rattle.cg_settings_file.proofs.SeedLemmas.{distinct_seeds}
use Rattle.cg_settings_file.proofs.laws.seeds_rise_and_are_those_listed.Goals as goal

pub returns : goal.returns
returns c = distinct_seeds
