-- Numbers of records and of receipts.
use Rattle.std.specs.Prelude.{ℕ, suc, ◌==◌, Bool, ◌&&◌, List, [], ◌∷◌, map, if◌then◌else◌}
use Rattle.std.specs.List.{filter}
use Rattle.cg_core.specs.declared.event.Event.{Event}
use Rattle.cg_history.specs.declared.item.Item.{Item}
use Rattle.cg_history.specs.declared.item.Receipt.{Receipt}

-- the numbers of those that pass a test, in their order, if the first of all has number n
abbrev pub numbers_from : {A : Type 0} → ℕ → (A → Bool) → List A → List ℕ
numbers_from n passes [] = []
numbers_from n passes (x ∷ xs) =
    if passes x then n ∷ numbers_from (suc n) passes xs else numbers_from (suc n) passes xs

-- true if a record is of a caller's event of a kind
abbrev pub is_record_of : ℕ → (Event → Bool) → Item → Bool
is_record_of caller kind r = (r.caller == caller) && kind r.event

abbrev pub is_receipt_of : ℕ → (Event → Bool) → Receipt → Bool
is_receipt_of caller kind q = (q.caller == caller) && kind q.event

-- the numbers of the records of a caller's events of a kind, in their order; records are numbered from 1
abbrev pub numbers_in : ℕ → (Event → Bool) → List Item → List ℕ
numbers_in caller kind records = numbers_from 1 (is_record_of caller kind) records

-- the numbers of the receipts of a caller's events of a kind, in their order
abbrev pub numbers_on : ℕ → (Event → Bool) → List Receipt → List ℕ
numbers_on caller kind receipts = map (λ q. q.number) (filter (is_receipt_of caller kind) receipts)
