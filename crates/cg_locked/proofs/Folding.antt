-- A history beside the list of all its records, of which it has folded a front.
use Rattle.std.proofs.Common.{◌≡◌, ℕ, ◌+◌, ◌≤◌, List, [], length, take, refl, ap, ◌∙◌, subst, sym, arith, take_all, get_or-drop}
use Rattle.std.specs.Prelude.{slice_index_or}
use Rattle.cg_core.specs.Values.{NodeValue}
use Rattle.cg_history.specs.declared.item.Item.{Item}
use Rattle.cg_history.specs.History.{HistoryValue, Replays, IsReplayed, IsFoldOf, unfolded, with_folded}
use Rattle.cg_history.proofs.Folding.{all_counted}
use Rattle.cg_locked.specs.Board.{NoneIsFolded}

-- a history of which nothing is folded
pub none_is_folded : NoneIsFolded
none_is_folded all h fold none =
    let whole : h ≡ with_folded 0 (unfolded all h) = subst (λ (n : ℕ). h ≡ with_folded n (unfolded all h)) none fold.1 in
    (ap (λ (x : HistoryValue). x.records) whole, ap (λ (x : HistoryValue). x.base) whole)

module _ (all : List Item) (h : HistoryValue) (fold : IsFoldOf all h) where
  -- with all its records it replays
  pub whole_replayed : (start : NodeValue) → h.start ≡ start → Replays start all h.node → IsReplayed h → IsReplayed (unfolded all h)
  whole_replayed start starts led i =
      let count = all_counted all h fold in
      let few = i.few in
      record { begun = i.begun; front = []; came = refl; gone = refl; replays = subst (λ (n : NodeValue). Replays n all h.node) (sym starts) led; few = omega (arith, count, few) }

  -- the record behind the first k of those kept, among all
  pub index_in_all : (k : ℕ) (r : Item) → r ≡ slice_index_or h.records k r → r ≡ slice_index_or all (h.folded + k) r
  index_in_all k r at = at ∙ ap (λ (x : HistoryValue). slice_index_or x.records k r) fold.1 ∙ get_or-drop h.folded all k r

  -- if k reaches past those kept, these are all
  pub front_is_all : (k : ℕ) → length h.records ≤ k → take (h.folded + k) all ≡ all
  front_is_all k past =
      let count = all_counted all h fold in
      take_all (h.folded + k) all (omega (arith, count, past))
