use Rattle.std.proofs.Common.{None}
use Rattle.std.specs.Prelude.{not}
use Rattle.cg_core.specs.Claims.{owner_keeps}
use Rattle.cg_core.proofs.StepLemmas.{AreLed, filtered_rise}
use Rattle.cg_core.proofs.ClaimLemmas.{outcomes_rise_too}
use Rattle.cg_core.proofs.claims.movers.Goals as goal

pub of_owners-requires : goal.of_owners-requires
of_owners-requires c =
    let a = c.args in
    let led : AreLed a.before.now a.deltas.now a.after.now a.outcomes.now = record { table = c.requires.table; outcomes = c.requires.outcomes } in
    rw (c.deref.ensures.value, c.in_ok-owners.ensures)
    (filtered_rise (λ o. not (owner_keeps a.before.now.entries a.after.now.entries o)) None a.outcomes.now (outcomes_rise_too a.before.now a.deltas.now a.after.now a.outcomes.now c.requires.listed.rise led))
