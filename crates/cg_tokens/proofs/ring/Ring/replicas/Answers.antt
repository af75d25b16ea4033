use Rattle.std.proofs.Common.{◌∙◌}
use Rattle.cg_tokens.proofs.RingLemmas.{taken_around}
use Rattle.cg_tokens.proofs.ring.Ring.replicas.Goals as goal

pub returns : goal.returns
returns c =
    let from = c.split_at.ensures.back ∙ c.place_of.ensures.from in
    let before = c.split_at.ensures.front ∙ c.place_of.ensures.before in
    c.in_ok-take_endpoints-2.ensures
    ∙ rw (c.in_ok-take_endpoints.ensures, c.in_ok-taken.ensures.items, ← c.positions-positions.ensures.value) (taken_around c.args.rf c.args.token c.positions-positions.result.now c.split_at.result.1.now c.split_at.result.0.now from before)
