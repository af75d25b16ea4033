use Rattle.std.proofs.Common.{◌≡◌, ◌+◌, ◌++◌, [], ◌∷◌, ap, sym, ◌∙◌, take}
use Rattle.std.proofs.lemmas.List.{take_more}
use Rattle.cg_world.specs.World.{act, run_from}
use Rattle.cg_world.proofs.WorldLaws.{run_on}
use Rattle.cg_world.proofs.exchanges.act_all.Goals as goal

pub loop-action-preserved : goal.loop-action-preserved
loop-action-preserved c =
    let at = c.loop-action.action-index in
    let actions = c.args.actions.now in
    let action = c.action-item.result in
    let more : take (at + 1) actions ≡ take at actions ++ action ∷ [] = take_more actions at action c.loop-action-test.true ∙ ap (λ a. take at actions ++ a ∷ []) (sym c.action-item.is) in
    c.in_ok-act.ensures.ok ∙ ap (λ w. act w action) c.loop-action.invariant ∙ sym (run_on c.args.world.now (take at actions) action) ∙ ap (run_from c.args.world.now) (sym more)
