use Rattle.cg_fleet.proofs.relaying.+relay.Given as goal

abbrev pub decreases-relay : goal.decreases-relay
decreases-relay l = l.arrive
