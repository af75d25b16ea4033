use Rattle.std.proofs.Common.{rules, true, false, ◌≡◌, ◌≤◌, ◌+◌, ◌-◌, length, take, arith, subst, sym, ap, ◌∙◌}
use Rattle.cg_history.specs.Items.{puts_of}
use Rattle.cg_history.specs.History.{HistoryValue, IsFoldOf, Replays, count_of, with_folded}
use Rattle.cg_history.proofs.Folding.{count_stays, fold_folded}
use Rattle.cg_locked.proofs.board.Board.fold.Goals as goal

pub invariant_of-self-2 : goal.invariant_of-self-2
invariant_of-self-2 g c =
    let s = c.args.self.now in
    let h = s.history in
    let n = c.min-count.result in
    let is : c.fold_front.new.self ≡ with_folded n h = c.in_ok-fold_front.ensures.ok in
    let published : n ≤ s.published = search rules in
    let first = s.within.0 in
    let few = s.within.1 in
    let all : n ≤ length h.records = omega (arith, published, first, few) in
    let stays = count_stays n h all in
    let shown : h.folded + s.appended ≡ h.folded + n + (s.appended - n) = omega (arith, published, first) in
    let shows : h.folded + s.published ≡ h.folded + n + (s.published - n) = omega (arith, published) in
    record {
      listed = subst (λ (x : HistoryValue). IsFoldOf s.log x) (sym is) (fold_folded n s.log h all s.listed);
      replays = subst (λ (x : HistoryValue). Replays g.N.Name.start s.log x.node) (sym is) s.replays;
      counted = s.counted ∙ sym stays ∙ ap count_of (sym is);
      within = (omega (arith, first), subst (λ (x : HistoryValue). s.appended - n ≤ length x.records) (sym is) (omega (arith, few, stays)));
      shown = s.shown ∙ ap (λ k. puts_of (take k s.log)) shown ∙ ap (λ (x : HistoryValue). puts_of (take (x.folded + (s.appended - n)) s.log)) (sym is);
      shows = s.shows ∙ ap (λ k. puts_of (take k s.log)) shows ∙ ap (λ (x : HistoryValue). puts_of (take (x.folded + (s.published - n)) s.log)) (sym is);
      start = ap (λ (x : HistoryValue). x.start) is ∙ s.start;
      whole = λ not. let both : true ≡ false = sym c.requires ∙ not in absurd cc;
      opening = s.opening;
    }
