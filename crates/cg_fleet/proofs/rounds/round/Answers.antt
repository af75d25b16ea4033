use Rattle.cg_fleet.specs.Moves.{HasRound, fleet_of}
use Rattle.cg_fleet.proofs.MoveLemmas.{each_did}
use Rattle.cg_fleet.proofs.rounds.round.Goals as goal

pub loop-place-preserved : goal.loop-place-preserved
loop-place-preserved g c =
    each_did HasRound c.loop-place.place (fleet_of c.args.nodes.now c.args.sent.now) (fleet_of c.loop-place.nodes c.loop-place.sent)
    (fleet_of c.round_at.new.nodes c.round_at.new.sent) c.loop-place.invariant c.in_ok-round_at.ensures
