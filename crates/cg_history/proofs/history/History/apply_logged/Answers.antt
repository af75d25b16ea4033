use Rattle.std.proofs.Common.{rules, refl, ◌≡◌, ◌∙◌, ◌++◌, ◌∷◌, [], sym, ap, subst, Ok}
use Rattle.std.specs.Prelude.{IsOk}
use Rattle.cg_history.specs.History.{HistoryValue, with_record, apply, unfolded}
use Rattle.cg_history.proofs.Replaying.{replayed_after}
use Rattle.cg_history.proofs.Folding.{whole_done, whole_refused}
use Rattle.cg_history.proofs.history.History.apply_logged.Goals as goal

pub returns-in_err-reserve-clause-due : goal.returns-in_err-reserve-clause-due
returns-in_err-reserve-clause-due g c =
    let ok : IsOk (apply c.args.self.now c.args.caller c.args.event) = subst IsOk (sym c.in_ok-node.ensures) refl in
    search rules

pub returns-then-not-add-clause-due : goal.returns-then-not-add-clause-due
returns-then-not-add-clause-due g c =
    let ok : IsOk (apply c.args.self.now c.args.caller c.args.event) = subst IsOk (sym c.in_ok-node.ensures) refl in
    search rules

pub invariant_of-self-2 : goal.invariant_of-self-2
invariant_of-self-2 g c =
    let h : HistoryValue = record { start = c.self.inside.start; base = c.self.inside.base; folded = c.self.inside.folded; records = c.self.inside.items.items; node = c.self.inside.node } in
    let step = subst (λ (w : HistoryValue). apply w c.args.caller c.args.event ≡ Ok (with_record w c.in_ok-node.node c.in_ok-node.item, c.in_ok-node.receipt)) (sym c.self.view_is) c.in_ok-node.ensures in
    rw (c.push_reserved.ensures.items, c.in_ok-reserve.ensures.items) (replayed_after h c.args.caller c.args.event (with_record h c.in_ok-node.node c.in_ok-node.item) c.in_ok-node.receipt c.self.invariant step)

pub returns-in_err-node-clause-whole : goal.returns-in_err-node-clause-whole
returns-in_err-node-clause-whole g c =
    let refused = whole_refused (g.L.Log.told c.args.log.now) c.args.self.now c.args.caller c.args.event c.in_err-node.field-0.0 c.requires c.in_err-node.ensures in
    search rules

pub returns-in_err-reserve-clause-whole : goal.returns-in_err-reserve-clause-whole
returns-in_err-reserve-clause-whole g c =
    let done = whole_done (g.L.Log.told c.args.log.now) c.args.self.now c.args.caller c.args.event c.in_ok-node.node c.in_ok-node.item c.in_ok-node.receipt c.requires c.in_ok-node.ensures in
    let ok : IsOk (apply (unfolded (g.L.Log.told c.args.log.now) c.args.self.now) c.args.caller c.args.event) = subst IsOk (sym done) refl in
    search rules

pub returns-clause-whole : goal.returns-clause-whole
returns-clause-whole g c =
    let all = g.L.Log.told c.args.log.now in
    let done = whole_done all c.args.self.now c.args.caller c.args.event c.in_ok-node.node c.in_ok-node.item c.in_ok-node.receipt c.requires c.in_ok-node.ensures in
    let begun = ap (λ (w : HistoryValue). w.start) (sym c.self.view_is) in
    let told : g.L.Log.told c.add.new.self ≡ all ++ c.in_ok-node.item ∷ [] = search rules in
    done ∙ (λ k. Ok (record { start = begun k; base = begun k; folded = 0; records = sym told k; node = c.in_ok-node.node }, c.in_ok-node.receipt))
