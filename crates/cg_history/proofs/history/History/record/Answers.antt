use Rattle.std.proofs.Common.{rules, ◌≡◌, ◌≢◌, refl, sym, ap, ◌∙◌, subst, Ok}
use Rattle.std.specs.Prelude.{IsOk}
use Rattle.cg_core.specs.Changes.{step_with_puts}
use Rattle.cg_history.specs.History.{HistoryValue, LAST_NUMBER, count_of, apply}
use Rattle.cg_history.proofs.Replaying.{apply_unspent, with_step_ok}
use Rattle.cg_history.proofs.history.History.record.Goals as goal

pub returns-in_err-receipt : goal.returns-in_err-receipt
returns-in_err-receipt c =
    let h = c.args.self.now in
    let step : step_with_puts h.node c.args.event ≡ Ok (c.in_ok-node.node, c.in_ok-node.reply, c.in_ok-node.puts) =
    sym (ap (λ (w : HistoryValue). step_with_puts w.node c.args.event) c.self.view_is) ∙ c.in_ok-node.ensures in
    let room : count_of h ≢ LAST_NUMBER = search rules in
    let due = apply_unspent h c.args.caller c.args.event room ∙ with_step_ok h c.args.caller c.args.event c.in_ok-node.node c.in_ok-node.reply c.in_ok-node.puts step in
    let ok : IsOk (apply h c.args.caller c.args.event) = subst IsOk (sym due) refl in
    search rules
