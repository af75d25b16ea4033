use Rattle.std.proofs.Common.{length}
use Rattle.cg_fleet.proofs.rounds.+reach_all.Given as goal

abbrev pub decreases-reach_all : goal.decreases-reach_all
decreases-reach_all g l = length l.peers.now
