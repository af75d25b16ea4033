-- The greatest number of a group of callers, and the receipts that come after it.
use Rattle.std.proofs.Common.{◌≡◌, ℕ, ◌+◌, ◌<◌, ◌≤◌, List, length, take, subst, arith, get_or}
use Rattle.std.proofs.lemmas.List.Elements.{All-more}
use Rattle.cg_history.specs.declared.item.Receipt.{Receipt}
use Rattle.cg_history.specs.declared.greatest.Greatest.{Greatest}
use Rattle.cg_history.specs.Greatest.{greatest_of_caller, AreAtMost}
use Rattle.cg_history.specs.Confirming.{ComesAfterAll}

-- a receipt comes after all of its caller if its number is above the group's
pub follows_at_most : (m : Greatest) (before : List Receipt) (r : Receipt) → AreAtMost m before → greatest_of_caller m r.caller < r.number → ComesAfterAll before r
follows_at_most m before r at_most less i d within = λ same.
    let q : Receipt = get_or before i d in
    let up : q.number ≤ greatest_of_caller m r.caller = subst (λ (c : ℕ). q.number ≤ greatest_of_caller m c) same (at_most i d within) in
    omega (arith, up, less)

-- one receipt more
pub at_most_more : (m n : Greatest) (receipts : List Receipt) (i : ℕ) (r : Receipt) → i < length receipts → r ≡ get_or receipts i r → AreAtMost m (take i receipts)
    → ((c : ℕ) → greatest_of_caller m c ≤ greatest_of_caller n c) → r.number ≤ greatest_of_caller n r.caller → AreAtMost n (take (i + 1) receipts)
at_most_more m n receipts i r less is at_most kept own =
    All-more (λ (q : Receipt). q.number ≤ greatest_of_caller n q.caller) receipts i r less before (subst (λ (q : Receipt). q.number ≤ greatest_of_caller n q.caller) is own)
  where
    before : AreAtMost n (take i receipts)
    before k d within =
        let q : Receipt = get_or (take i receipts) k d in
        let old : q.number ≤ greatest_of_caller m q.caller = at_most k d within in
        let more : greatest_of_caller m q.caller ≤ greatest_of_caller n q.caller = kept q.caller in
        omega (arith, old, more)
