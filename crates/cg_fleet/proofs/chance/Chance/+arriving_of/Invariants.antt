use Rattle.cg_fleet.proofs.chance.Chance.+arriving_of.Given as goal

abbrev pub decreases-arriving_of : goal.decreases-arriving_of
decreases-arriving_of g l = l.most
