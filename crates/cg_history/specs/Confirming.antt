-- Confirmed receipts: each has its record at its number, and comes after the earlier ones of its caller.
use Rattle.std.specs.Prelude.{ℕ, ◌≡◌, ◌<◌, ◌-◌, ◌&&◌, List, take, Some, slice_get, nat_lt, nat_le, if◌then◌else◌}
use Rattle.std.specs.List.{All}
use Rattle.cg_types.specs.declared.fault.Fault.{Fault}
use Rattle.cg_types.specs.declared.fault.Fault.TheVariants.{Folded, Stranger}
use Rattle.cg_types.specs.ListPlace.{at_place}
use Rattle.cg_history.specs.declared.item.Item.{Item}
use Rattle.cg_history.specs.declared.item.Receipt.{Receipt}
use Rattle.cg_history.specs.declared.item.UnconfirmedReceipt.{UnconfirmedReceipt}

-- The record is the receipt's.
abbrev pub IsOf : Item → Receipt → Type 0
IsOf i r = (i.caller ≡ r.caller) × (i.event ≡ r.event) × (i.reply ≡ r.reply)

-- The receipt's record is at its number. Records are numbered from 1, and the folded ones, which come first, are no
-- longer kept.
abbrev pub Stands : ℕ → List Item → Receipt → Type 0
Stands folded records r = (i : Item) × (at_place records (r.number - folded) ≡ Some i) × IsOf i r

-- The receipt comes after an earlier one, if that is of the same caller.
abbrev pub ComesAfter : Receipt → Receipt → Type 0
ComesAfter q r = q.caller ≡ r.caller → q.number < r.number

-- The receipt comes after the earlier ones of its caller.
abbrev pub ComesAfterAll : List Receipt → Receipt → Type 0
ComesAfterAll before r = All (λ q. ComesAfter q r) before

-- Each receipt comes after the earlier ones of its caller.
abbrev pub AreInOrder : List Receipt → Type 0
AreInOrder receipts = (place : ℕ) (r : Receipt) → slice_get receipts place ≡ Some r → ComesAfterAll (take place receipts) r

-- The receipt's record is among the records, and the receipt comes after the earlier ones of its caller.
pub record IsConfirmed (folded : ℕ) (records : List Item) (before : List Receipt) (r : Receipt) : Type 0 where
  pub stands : Stands folded records r
  pub follows : ComesAfterAll before r

-- Each receipt is confirmed.
abbrev pub AreConfirmed : ℕ → List Item → List Receipt → Type 0
AreConfirmed folded records receipts =
    (place : ℕ) (r : Receipt)
    → slice_get receipts place ≡ Some r → IsConfirmed folded records (take place receipts) r

-- the fault of a receipt that is not confirmed: Folded if its number is that of a folded record
abbrev pub unconfirmed_fault : ℕ → Receipt → Fault
unconfirmed_fault folded r = if nat_lt 0 r.number && nat_le r.number folded then Folded else Stranger

-- The receipts before the place are confirmed, and the one at the place is not.
pub record IsFirstUnconfirmed (folded : ℕ) (records : List Item) (receipts : List Receipt) (s : UnconfirmedReceipt) : Type 0 where
  pub before : AreConfirmed folded records (take s.place receipts)
  pub receipt : Receipt
  pub at : slice_get receipts s.place ≡ Some receipt
  pub unconfirmed : IsConfirmed folded records (take s.place receipts) receipt → ⊥
  pub why : s.fault ≡ unconfirmed_fault folded receipt
