use Rattle.std.proofs.Common.{◌∙◌, ◌<◌, length, sym, subst, ap, arith}
use Rattle.cg_messages.specs.declared.owner_delta.OwnerDelta.{OwnerDelta}
use Rattle.cg_exchange.specs.Taking.{outcome_of}
use Rattle.cg_exchange.specs.Changes.{row_changed}
use Rattle.cg_core.proofs.StepLemmas.{AreLed}
use Rattle.cg_core.proofs.ClaimLemmas.{IsRowHeld, same_count, outcome_at, row_held}
use Rattle.cg_core.proofs.claims.moved_owners.Goals as goal

pub offset_bounds-deltas-at : goal.offset_bounds-deltas-at
offset_bounds-deltas-at c =
    let a = c.args in
    let led : AreLed a.before.now a.deltas.now a.after.now a.outcomes.now = record { table = c.requires.table; outcomes = c.requires.outcomes } in
    omega (arith, c.loop-at-test.true, c.requires.listed.few, same_count a.before.now a.deltas.now a.after.now a.outcomes.now c.requires.listed.rise led)

pub bounds-deltas-at : goal.bounds-deltas-at
bounds-deltas-at c =
    let a = c.args in
    let led : AreLed a.before.now a.deltas.now a.after.now a.outcomes.now = record { table = c.requires.table; outcomes = c.requires.outcomes } in
    omega (arith, c.loop-at-test.true, same_count a.before.now a.deltas.now a.after.now a.outcomes.now c.requires.listed.rise led)

pub owner_keeps-requires-clause-outcome : goal.owner_keeps-requires-clause-outcome
owner_keeps-requires-clause-outcome c =
    let a = c.args in
    let led : AreLed a.before.now a.deltas.now a.after.now a.outcomes.now = record { table = c.requires.table; outcomes = c.requires.outcomes } in
    let few : c.loop-at.at < length a.deltas.now = omega (arith, c.loop-at-test.true, same_count a.before.now a.deltas.now a.after.now a.outcomes.now c.requires.listed.rise led) in
    c.index-outcomes-at.is
    ∙ outcome_at a.before.now a.deltas.now a.after.now a.outcomes.now c.requires.listed.rise led c.loop-at.at c.index-deltas-at.result c.index-outcomes-at.result few
    ∙ ap (outcome_of a.before.now) (sym c.index-deltas-at.is)

pub owner_keeps-requires-clause-row : goal.owner_keeps-requires-clause-row
owner_keeps-requires-clause-row c =
    let a = c.args in
    let led : AreLed a.before.now a.deltas.now a.after.now a.outcomes.now = record { table = c.requires.table; outcomes = c.requires.outcomes } in
    let few : c.loop-at.at < length a.deltas.now = omega (arith, c.loop-at-test.true, same_count a.before.now a.deltas.now a.after.now a.outcomes.now c.requires.listed.rise led) in
    subst (λ (d : OwnerDelta). IsRowHeld a.after.now.entries (row_changed a.before.now d)) (sym c.index-deltas-at.is)
    (row_held a.before.now a.deltas.now a.after.now a.outcomes.now c.requires.listed.rise led c.loop-at.at c.index-deltas-at.result few)
