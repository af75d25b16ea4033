use Rattle.std.proofs.Common.{refl, inl}
use Rattle.cg_sim.proofs.StepLemmas.{nothing_read}
use Rattle.cg_sim.proofs.simulating.tell_script.Goals as goal

pub returns-in_default-clause-told : goal.returns-in_default-clause-told
returns-in_default-clause-told g c = inl (nothing_read _ _ _ _ _ refl)
