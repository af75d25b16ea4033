use Rattle.cg_fleet.specs.Moves.{EachDid, HasQuietRound, fleet_of}
use Rattle.cg_fleet.proofs.rounds.quiet_round.Given as goal

-- the nodes of the places so far did their rounds
abbrev pub invariant-loop-place : goal.invariant-loop-place
invariant-loop-place g l = EachDid HasQuietRound l.place (fleet_of l.initial.nodes l.initial.sent) (fleet_of l.nodes l.sent)
