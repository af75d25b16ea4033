-- What a fold leaves as it is: answers, receipts, and the list of all records.
use Rattle.std.proofs.Common.{◌≡◌, ℕ, zero, suc, ◌+◌, ◌-◌, ◌≤◌, ◌<◌, Bool, true, false, cond, List, [], ◌∷◌, ◌++◌, length, take, drop, map, Some, Result, Ok, Err, refl, sym, ap, ◌∙◌, subst, arith, get_or}
use Rattle.std.specs.Prelude.{◌==◌, slice_get}
use Rattle.std.proofs.lemmas.List.{take-append-le, drop-append-le}
use Rattle.std.proofs.lemmas.Option.{same_Some}
use Rattle.cg_types.specs.declared.fault.Fault.{Fault}
use Rattle.cg_types.specs.declared.fault.Fault.TheVariants.{VersionsSpent}
use Rattle.cg_types.specs.ListPlace.{at_place}
use Rattle.cg_table.specs.Puts.{puts}
use Rattle.cg_core.specs.declared.event.Event.{Event}
use Rattle.cg_core.specs.Step.{Step, node_step}
use Rattle.cg_history.specs.declared.item.Item.{Item}
use Rattle.cg_history.specs.declared.item.Receipt.{Receipt}
use Rattle.cg_history.specs.Confirming.{Stands, ComesAfter, IsConfirmed, AreConfirmed}
use Rattle.cg_history.proofs.Confirmed.{at_take, at_place_within, within_follows}
use Rattle.cg_history.specs.History.{record_of, HistoryValue, IsFoldOf, LAST_NUMBER, count_of, with_record, with_step, apply, node_after, with_folded, unfolded}
use Rattle.cg_history.proofs.Folding.{count_stays, folded_twice, fold_more, fold_folded, whole_done}
use Rattle.cg_history.specs.Laws.{with_answer_folded, uncounted, FoldingChangesNoAnswer, FoldsAddUp, ConfirmedPastAFold, ConfirmedBeforeAFold, ConfirmedUncounted, FoldedHistoriesGoOn}
use Rattle.cg_history.proofs.OneMore.{each_event_makes_one_record}

-- ---- answers

module _ (h : HistoryValue) (n caller : ℕ) (e : Event) (le : n ≤ length h.records) where
  step_folded : (due : Step) → with_step (with_folded n h) caller e due ≡ with_answer_folded n (with_step h caller e due)
  step_folded (Err fault) = refl
  step_folded (Ok x) =
      let r = record_of caller e h.node x in
      let base : node_after h.base (take n h.records) ≡ node_after h.base (take n (h.records ++ r ∷ [])) = ap (node_after h.base) (sym (take-append-le n h.records (r ∷ []) le)) in
      let records : drop n h.records ++ r ∷ [] ≡ drop n (h.records ++ r ∷ []) = sym (drop-append-le n h.records (r ∷ []) le) in
      let count : count_of (with_folded n h) ≡ count_of h = count_stays n h le in
      λ k. Ok (record { start = h.start; base = base k; folded = h.folded + n; records = records k; node = x.0 }, record { caller = caller; number = count k + 1; event = e; reply = x.1 })

  abbrev outcome : HistoryValue → Bool → Result (HistoryValue × Receipt) Fault
  outcome g spent = cond {A = Result (HistoryValue × Receipt) Fault} spent (Err VersionsSpent) (with_step g caller e (node_step h.node e))

  answer_folded : (spent : Bool) → outcome (with_folded n h) spent ≡ with_answer_folded n (outcome h spent)
  answer_folded true = refl
  answer_folded false = step_folded (node_step h.node e)

  answer_stays : apply (with_folded n h) caller e ≡ with_answer_folded n (apply h caller e)
  answer_stays = ap (λ (c : ℕ). outcome (with_folded n h) (c == LAST_NUMBER)) (count_stays n h le) ∙ answer_folded (count_of h == LAST_NUMBER)

pub folding_changes_no_answer : FoldingChangesNoAnswer
folding_changes_no_answer = answer_stays

pub folds_add_up : FoldsAddUp
folds_add_up h m n = folded_twice m n h

-- ---- receipts

-- a record behind the first n
at_behind : (n : ℕ) (rs : List Item) (p : ℕ) → slice_get rs (n + p) ≡ slice_get (drop n rs) p
at_behind zero rs p = let same : 0 + p ≡ p = omega arith in ap (slice_get rs) same
at_behind (suc n) [] p = refl
at_behind (suc n) (r ∷ rs) p = let same : suc n + p ≡ suc (n + p) = omega arith in ap (slice_get (r ∷ rs)) same ∙ at_behind n rs p

place_behind : (n : ℕ) (rs : List Item) (p : ℕ) → 0 < p → at_place rs (n + p) ≡ at_place (drop n rs) p
place_behind n rs zero some = absurd (omega arith)
place_behind n rs (suc p) some = let same : n + suc p ≡ suc (n + p) = omega arith in ap (at_place rs) same ∙ at_behind n rs p

-- at place 0 there is none
placed : (rs : List Item) (p : ℕ) (i : Item) → at_place rs p ≡ Some i → 0 < p
placed rs zero i is = absurd cc
placed rs (suc p) i is = omega arith

module _ (h : HistoryValue) (n : ℕ) (r : Receipt) where
  same_place : h.folded + n < r.number → at_place h.records (r.number - h.folded) ≡ at_place (drop n h.records) (r.number - (h.folded + n))
  same_place past =
      let there : r.number - h.folded ≡ n + (r.number - (h.folded + n)) = omega arith in
      ap (at_place h.records) there ∙ place_behind n h.records (r.number - (h.folded + n)) (omega arith)

  stands_past : h.folded + n < r.number → Stands h.folded h.records r → Stands (h.folded + n) (drop n h.records) r
  stands_past past stands = (stands.0, sym (same_place past) ∙ stands.1, stands.2)

  stands_before : Stands (h.folded + n) (drop n h.records) r → Stands h.folded h.records r
  stands_before stands =
      let some = placed (drop n h.records) (r.number - (h.folded + n)) stands.0 stands.1 in
      (stands.0, same_place (omega (arith, some)) ∙ stands.1, stands.2)

pub confirmed_past_a_fold : ConfirmedPastAFold
confirmed_past_a_fold h n receipts all past place r at =
    let one = all place r at in
    record { stands = stands_past h n r (past place r at) one.stands; follows = one.follows }

pub confirmed_before_a_fold : ConfirmedBeforeAFold
confirmed_before_a_fold h n receipts all place r at =
    let one = all place r at in
    record { stands = stands_before h n r one.stands; follows = one.follows }

-- ---- numbers that do not count the folded records

at_uncounted : (folded : ℕ) (rs : List Receipt) (k : ℕ) (q : Receipt) → slice_get (map (uncounted folded) rs) k ≡ Some q → (r : Receipt) × (slice_get rs k ≡ Some r) × (uncounted folded r ≡ q)
at_uncounted folded [] k q is = absurd cc
at_uncounted folded (r ∷ rs) zero q is = (r, refl, same_Some (uncounted folded r) q is)
at_uncounted folded (r ∷ rs) (suc k) q is = at_uncounted folded rs k q is

-- an element among the first ones is an element
at_front : (xs : List Receipt) (k i : ℕ) (q : Receipt) → slice_get (take k xs) i ≡ Some q → (i < k) × (slice_get xs i ≡ Some q)
at_front xs zero i q is = absurd cc
at_front [] (suc k) i q is = absurd cc
at_front (x ∷ xs) (suc k) zero q is = (omega arith, is)
at_front (x ∷ xs) (suc k) (suc i) q is = let rest = at_front xs k i q is in ((let less = rest.0 in omega (arith, less)), rest.1)

module _ (folded : ℕ) (records : List Item) (receipts : List Receipt) (all : AreConfirmed folded records receipts) where
  counts : (k : ℕ) (r : Receipt) → slice_get receipts k ≡ Some r → 0 < r.number - folded
  counts k r at = let stands = (all k r at).stands in placed records (r.number - folded) stands.0 stands.1

  after_uncounted : (place : ℕ) (r : Receipt) → slice_get receipts place ≡ Some r → (i : ℕ) (q : Receipt) → slice_get (take place (map (uncounted folded) receipts)) i ≡ Some q → ComesAfter q (uncounted folded r)
  after_uncounted place r at i q is same =
      let here = at_front (map (uncounted folded) receipts) place i q is in
      let old = at_uncounted folded receipts i q here.1 in
      let caller : old.0.caller ≡ r.caller = ap (λ (x : Receipt). x.caller) old.2 ∙ same in
      let later : old.0.number < r.number = within_follows (take place receipts) i old.0 r (all place r at).follows (at_take receipts i place old.0 here.0 old.1) caller in
      let number : old.0.number - folded ≡ q.number = ap (λ (x : Receipt). x.number) old.2 in
      let some = counts i old.0 old.1 in
      omega (arith, later, number, some)

  uncounted_one : (place : ℕ) (r : Receipt) → slice_get receipts place ≡ Some r → IsConfirmed 0 records (take place (map (uncounted folded) receipts)) (uncounted folded r)
  uncounted_one place r at =
      let stands = (all place r at).stands in
      let same : r.number - folded - 0 ≡ r.number - folded = omega arith in
      record {
        stands = (stands.0, ap (at_place records) same ∙ stands.1, stands.2);
        follows = λ i d less. after_uncounted place r at i (get_or (take place (map (uncounted folded) receipts)) i d) (at_place_within (take place (map (uncounted folded) receipts)) i d less);
      }

pub confirmed_uncounted : ConfirmedUncounted
confirmed_uncounted folded records receipts all place q at =
    let r = at_uncounted folded receipts place q at in
    subst (IsConfirmed 0 records (take place (map (uncounted folded) receipts))) r.2 (uncounted_one folded records receipts all place r.0 r.1)

-- ---- the list of all records

module _ (all : List Item) (h : HistoryValue) (fold : IsFoldOf all h) where
  event_goes_on : (caller : ℕ) (e : Event) (after : HistoryValue) (q : Receipt) → apply h caller e ≡ Ok (after, q) → (r : Item) × IsFoldOf (all ++ r ∷ []) after × (apply (unfolded all h) caller e ≡ Ok (unfolded (all ++ r ∷ []) after, q))
  event_goes_on caller e after q is =
      let one = each_event_makes_one_record h caller e after q is in
      let r : Item = record { caller = caller; event = e; reply = one.answer; puts = puts h.node.table one.node.table } in
      let same : with_record h one.node r ≡ after = λ k. record { start = sym one.start k; base = sym one.base k; folded = sym one.folded k; records = sym one.records k; node = sym one.led k } in (
        r,
        subst (IsFoldOf (all ++ r ∷ [])) same (fold_more all h one.node r fold),
        whole_done all h caller e one.node r q fold (is ∙ ap (λ (x : HistoryValue). Ok (x, q)) (sym same)) ∙ ap (λ (x : HistoryValue). Ok (unfolded (all ++ r ∷ []) x, q)) same,
      )

pub folded_histories_go_on : FoldedHistoriesGoOn
folded_histories_go_on all h fold = record { event = event_goes_on all h fold; fold = λ n le. fold_folded n all h le fold }
