use Rattle.std.proofs.Common.{rules, refl, ◌≡◌, sym, subst, Ok}
use Rattle.std.specs.Prelude.{IsOk}
use Rattle.cg_history.specs.History.{HistoryValue, with_record, apply}
use Rattle.cg_history.proofs.Replaying.{replayed_after}
use Rattle.cg_history.proofs.history.History.apply.Goals as goal

pub returns-in_err-push-clause-due : goal.returns-in_err-push-clause-due
returns-in_err-push-clause-due c =
    let ok : IsOk (apply c.args.self.now c.args.caller c.args.event) = subst IsOk (sym c.in_ok-node.ensures) refl in
    search rules

pub invariant_of-self-2 : goal.invariant_of-self-2
invariant_of-self-2 c =
    let h : HistoryValue = record { start = c.self.inside.start; base = c.self.inside.base; folded = c.self.inside.folded; records = c.self.inside.items.items; node = c.self.inside.node } in
    let step = subst (λ (w : HistoryValue). apply w c.args.caller c.args.event ≡ Ok (with_record w c.in_ok-node.node c.in_ok-node.item, c.in_ok-node.receipt)) (sym c.self.view_is) c.in_ok-node.ensures in
    rw c.in_ok-push.ensures.items (replayed_after h c.args.caller c.args.event (with_record h c.in_ok-node.node c.in_ok-node.item) c.in_ok-node.receipt c.self.invariant step)
