-- The law of confirmed receipts, as a statement.
use Rattle.std.specs.Prelude.{ℕ, ◌≡◌, Bool, List, length}
use Rattle.cg_core.specs.declared.event.Event.{Event}
use Rattle.cg_history.specs.declared.item.Item.{Item}
use Rattle.cg_history.specs.declared.item.Receipt.{Receipt}
use Rattle.cg_history.specs.Confirming.{AreConfirmed}
use Rattle.cg_threads.specs.Numbers.{numbers_in, numbers_on}

-- The receipts of a caller's events of a kind have the numbers of the records of these, in their order. This holds if
-- none is folded, and confirmed receipts are as many as the records.
abbrev pub ReceiptsHaveTheNumbers : Type 0
ReceiptsHaveTheNumbers =
    (records : List Item) (receipts : List Receipt) (caller : ℕ) (kind : Event → Bool) → AreConfirmed 0 records receipts
    → length receipts ≡ length records → numbers_on caller kind receipts ≡ numbers_in caller kind records
