use Rattle.cg_fleet.specs.Moves.{HasQuietRound, fleet_of}
use Rattle.cg_fleet.proofs.MoveLemmas.{each_did}
use Rattle.cg_fleet.proofs.rounds.quiet_round.Goals as goal

pub loop-place-preserved : goal.loop-place-preserved
loop-place-preserved g c =
    each_did HasQuietRound c.loop-place.place (fleet_of c.args.nodes.now c.args.sent.now) (fleet_of c.loop-place.nodes c.loop-place.sent)
    (fleet_of c.quiet_round_at.new.nodes c.quiet_round_at.new.sent) c.loop-place.invariant c.in_ok-quiet_round_at.ensures
