use Rattle.std.proofs.Common.{rules, ◌≡◌, ◌≤◌, ◌∙◌, sym, ap, subst, length, take, take_all}
use Rattle.cg_history.specs.History.{IsReplayed, node_after}
use Rattle.cg_history.proofs.Folding.{leads_after}
use Rattle.cg_history.proofs.history.History.node_after.Goals as goal

pub returns-then-n-len : goal.returns-then-n-len
returns-then-n-len c =
    let h = c.args.self.now in
    let n = c.args.n in
    let all : length h.records ≤ n = search rules in
    let replayed : IsReplayed h = subst IsReplayed c.self.view_is c.self.invariant in
    let leads : h.node ≡ node_after h.base (take n h.records) = leads_after h.base h.records h.node replayed.replays ∙ ap (node_after h.base) (sym (take_all n h.records all)) in
    search rules
