use Rattle.cg_host.proofs.GenerationLemmas.{kept_is_read}
use Rattle.cg_host.proofs.laws.a_kept_generation_is_read.Goals as goal

pub returns : goal.returns
returns c = kept_is_read
