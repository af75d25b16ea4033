use Rattle.cg_sim.proofs.SimulatingLemmas.{simulates_short, simulates_cut, simulates_broken}
use Rattle.cg_sim.proofs.simulating.sim_links.Goals as goal

pub returns-in-OutOfMemory-clause-played : goal.returns-in-OutOfMemory-clause-played
returns-in-OutOfMemory-clause-played g c =
    simulates_short _ _ _ _ _ _ _ _ _ _ _ c.in-OutOfMemory.is c.in-Err.ensures.told c.say_out_of_memory.ensures

pub returns-in-ReadFault-clause-played : goal.returns-in-ReadFault-clause-played
returns-in-ReadFault-clause-played g c =
    simulates_cut _ _ _ _ _ _ _ _ _ _ _ c.in-ReadFault.is c.in-Err.ensures.told c.say_read_fault.ensures

pub returns-in_default-clause-played : goal.returns-in_default-clause-played
returns-in_default-clause-played g c = simulates_broken _ _ _ _ _ _ _ _ _ c.in_default.not-OutOfMemory c.in_default.not-ReadFault c.in-Err.ensures.told
