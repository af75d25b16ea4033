use Rattle.std.proofs.Common.{refl, ◌∙◌, arith}
use Rattle.cg_workers.specs.declared.ticking.Turn.TheVariants as turn
use Rattle.cg_workers.proofs.TickLemmas.{none_so_far, more_so_far, stopped_here, all_done}
use Rattle.cg_workers.proofs.ticking.turns.Goals as goal
use Rattle.cg_workers.proofs.ticking.turns.Goals.{in-Refused, in-Put}

pub loop-place-init : goal.loop-place-init
loop-place-init g c = (refl, none_so_far _ _ _ _ _ _, refl)

pub returns-in-Stopped-clause-turns : goal.returns-in-Stopped-clause-turns
returns-in-Stopped-clause-turns g c =
    stopped_here _ _ _ _ _ _ _ _ _ _ c.loop-place.invariant.1 _ _ c.in-Stopped.ensures.turn _ c.loop-place-test.true

pub loop-place-preserved : goal.loop-place-preserved
loop-place-preserved g c =
    let so = c.loop-place.invariant.1 in (
      c.tick_once.ensures.channel ∙ c.loop-place.invariant.0,
      elim c.match-tick_once.branch [
        | in-Refused w ↦ more_so_far _ _ _ _ _ _ _ _ _ _ so turn.Refused _ w.in-Refused.ensures.turn tt _ w.in-Refused.ensures.left _ w.refused-is
        | in-Put w ↦ more_so_far _ _ _ _ _ _ _ _ _ _ so turn.Put _ w.in-Put.ensures.turn tt _ w.in-Put.ensures.left _ (omega (arith, w.refused-is))
      ],
      c.tick_once.ensures.seat ∙ c.loop-place.invariant.2,
    )

pub returns-clause-turns : goal.returns-clause-turns
returns-clause-turns g c =
    all_done _ _ _ _ _ _ _ _ _ _ c.loop-place.invariant.1 _ (omega (arith, c.loop-place-test.false, c.loop-place.auto.place-end))
