use Rattle.std.proofs.Common.{rules, ◌≡◌, ◌≤◌, ◌∙◌, sym, ap, length, take}
use Rattle.cg_history.specs.History.{HistoryValue, node_after}
use Rattle.cg_history.proofs.Folding.{folded_replayed}
use Rattle.cg_history.proofs.history.History.fold_front.Goals as goal

pub invariant_of-self-2 : goal.invariant_of-self-2
invariant_of-self-2 c =
    let h : HistoryValue = record { start = c.self.inside.start; base = c.self.inside.base; folded = c.self.inside.folded; records = c.self.inside.items.items; node = c.self.inside.node } in
    let le : c.args.n ≤ length h.records = search rules in
    let is : c.in_ok-base.base ≡ node_after h.base (take c.args.n h.records) = c.in_ok-base.ensures ∙ ap (λ (x : HistoryValue). node_after x.base (take c.args.n x.records)) (sym c.self.view_is) in
    rw (is, c.in_ok-kept.ensures.tail) (folded_replayed c.args.n h le c.self.invariant)
