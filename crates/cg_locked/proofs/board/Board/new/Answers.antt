use Rattle.std.proofs.Common.{◌≡◌, ℕ, ◌+◌, List, length, take, sym, ap, ◌∙◌, subst, arith}
use Rattle.cg_core.specs.Values.{NodeValue}
use Rattle.cg_history.specs.declared.item.Item.{Item}
use Rattle.cg_history.specs.Items.{puts_of}
use Rattle.cg_history.specs.History.{IsFoldOf, Replays}
use Rattle.cg_history.proofs.Replaying.{base_is_start}
use Rattle.cg_history.proofs.Folding.{fold_of_whole}
use Rattle.cg_views.specs.Lists.{PublisherValue, are_all}
use Rattle.cg_locked.proofs.board.Board.new.Goals as goal

pub invariant_of-result : goal.invariant_of-result
invariant_of-result g c =
    let h = c.args.history in
    let log = c.args.log in
    let its = c.requires.history in
    let none = its.1 in
    let i = c.show.ensures in
    let begins : h.base ≡ h.start = base_is_start h i none in
    let records : h.records ≡ log = its.0 ∙ sym c.requires.log in
    let zero : 0 ≡ h.folded + 0 = omega (arith, none) in
    let long = ap length its.0 in record {
      listed = subst (λ (l : List Item). IsFoldOf l h) records (fold_of_whole h none begins);
      replays = subst (λ (l : List Item). Replays g.N.Name.start l h.node) records (subst (λ (n : NodeValue). Replays n h.records h.node) its.2 i.replays);
      counted = omega (arith, none, long, c.requires.book);
      within = (omega arith, omega arith);
      shown = ap are_all c.requires.publisher ∙ ap (λ (n : ℕ). puts_of (take n log)) zero;
      shows = ap (λ (p : PublisherValue). p.published) c.requires.publisher ∙ ap (λ (n : ℕ). puts_of (take n log)) zero;
      start = sym begins ∙ its.2;
      whole = λ _. none;
      opening = ap (λ (p : PublisherValue). p.opening) c.requires.publisher ∙ ap (λ (n : NodeValue). n.table) its.2;
    }
