-- What records weigh, with one more and with some folded.
use Rattle.std.proofs.Common.{◌≡◌, ℕ, ◌+◌, ◌*◌, ◌^◌, ◌-◌, ◌<◌, ◌≤◌, List, [], ◌∷◌, ◌++◌, length, drop, sym, ap, ◌∙◌, arith, length-append}
use Rattle.std.specs.Prelude.{min, Result, Ok, Err, OnOk, OnErr}
use Rattle.std.proofs.lemmas.List.Sums.{sum_by-append, sum_by-take-drop}
use Rattle.cg_history.specs.declared.item.Item.{Item}
use Rattle.cg_core.specs.declared.event.Event.{Event}
use Rattle.cg_core.specs.declared.reply.Reply.{Reply}
use Rattle.cg_core.specs.Sending.{message_of}
use Rattle.cg_history.specs.History.{HistoryValue, with_folded}
use Rattle.cg_journal.specs.Text.{event_line}
use Rattle.cg_write_ahead.specs.declared.limits.TheConstants.{MEMBER_WEIGHT}
use Rattle.cg_write_ahead.specs.Submitting.{IsOneMore}
use Rattle.cg_write_ahead.specs.Weights.{members_sent, weight_of, weight_of_all, weight_of_both}

pub weight_more : (records : List Item) (r : Item) → weight_of_all (records ++ r ∷ []) ≡ weight_of_all records + weight_of r
weight_more records r =
    let one : weight_of_all (r ∷ []) ≡ weight_of r = omega arith in
    let both : weight_of_all (records ++ r ∷ []) ≡ weight_of_all records + weight_of_all (r ∷ []) = sum_by-append weight_of records (r ∷ []) in
    both ∙ ap (λ (n : ℕ). weight_of_all records + n) one

-- records weigh at least as much as those behind some of them
pub lighter : (n : ℕ) (records : List Item) → weight_of_all (drop n records) ≤ weight_of_all records
lighter n records = omega (arith, sum_by-take-drop weight_of records n)

-- the weight that is kept covers one record more
pub still_covers : (all before w more new : ℕ) → (before < 2 ^ 64 - 1 → all ≤ before) → w ≤ more → new ≡ min (before + more) (2 ^ 64 - 1) → new < 2 ^ 64 - 1 → all + w ≤ new
still_covers all before w more new covers less is short =
    let small : before < 2 ^ 64 - 1 = omega (arith, is, short) in
    let few = covers small in
    omega (arith, is, short, less, few)

-- a sum up to the greatest number, of a length up to it
pub counted : (before line few members new most : ℕ) → few ≡ min line most → new ≡ min (before + few + members) most → new ≡ min (before + line + members) most
counted before line few members new most is sum = omega (arith, is, sum)

-- what is folded no longer weighs
pub folded_lighter : (n : ℕ) (h g : HistoryValue) → g ≡ with_folded n h → weight_of_all g.records ≤ weight_of_all h.records
folded_lighter n h g is =
    let same : weight_of_all g.records ≡ weight_of_all (drop n h.records) = ap (λ (x : HistoryValue). weight_of_all x.records) is in
    let less = lighter n h.records in
    omega (arith, same, less)

pub fold_lighter : {T E : Type 0} (A B : Type 0) (result : Result T E) (n : ℕ) (h g : HistoryValue) → OnOk result (g ≡ with_folded n h) → OnErr result ((g ≡ h) × A × B) → weight_of_all g.records ≤ weight_of_all h.records
fold_lighter A B (Ok x) n h g is not = folded_lighter n h g is
fold_lighter A B (Err x) n h g is not = let same : weight_of_all g.records ≡ weight_of_all h.records = ap (λ (x : HistoryValue). weight_of_all x.records) not.0 in omega (arith, same)

module _ (e : Event) (answer : Reply) (records more : List Item) (one : IsOneMore e answer records more) where
  -- the weight covers the record of the line
  pub covers_more : (line : List ℕ) → line ≡ event_line e → (before new : ℕ) → (before < 2 ^ 64 - 1 → weight_of_all records ≤ before)
      → new ≡ min (before + length line + MEMBER_WEIGHT * members_sent (message_of answer)) (2 ^ 64 - 1) → new < 2 ^ 64 - 1 → weight_of_all more ≤ new
  covers_more line is before new covers now short =
      let w : weight_of one.item ≡ length line + MEMBER_WEIGHT * members_sent (message_of answer) =
      (λ i. weight_of_both (one.event i) (one.reply i)) ∙ ap (λ (l : List ℕ). length l + MEMBER_WEIGHT * members_sent (message_of answer)) (sym is) in
      let both : weight_of_all more ≡ weight_of_all records + weight_of one.item = ap weight_of_all one.are ∙ weight_more records one.item in
      let some : weight_of one.item ≤ length line + MEMBER_WEIGHT * members_sent (message_of answer) = omega (arith, w) in
      let sum : before + length line + MEMBER_WEIGHT * members_sent (message_of answer) ≡ before + (length line + MEMBER_WEIGHT * members_sent (message_of answer)) = omega arith in
      let covered = still_covers (weight_of_all records) before (weight_of one.item) (length line + MEMBER_WEIGHT * members_sent (message_of answer)) new covers some (now ∙ ap (λ (n : ℕ). min n (2 ^ 64 - 1)) sum) short in
      omega (arith, both, covered)

  pub longer : length more ≡ length records + 1
  longer = ap length one.are ∙ length-append records (one.item ∷ [])
