use Rattle.cg_sim.proofs.Honest.{honest}
use Rattle.cg_sim.proofs.simulating.sim.Goals as goal

pub returns-clause-honest : goal.returns-clause-honest
returns-clause-honest g c = honest _ _ _ _ _ _ _ _ _ c.sim_links.ensures.played
