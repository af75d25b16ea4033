-- A seat as contracts see it.
use Rattle.std.specs.Prelude.{ℕ, ◌+◌, List, refl}
use Rattle.std.specs.Coded.{Coded, code_by, coded×, coded_ℕ, coded_list}
use Rattle.cg_history.specs.declared.item.Item.{Item}
use Rattle.cg_history.specs.Items.{item_code}

-- its caller, its parts of the ledger, the number of events that it counted, and the records that it has seen
pub record SeatState : Type 0 where
  pub caller : ℕ
  pub parts : ℕ
  pub amount : ℕ
  pub seen : List Item

-- the code that a model of such a value requires
abbrev pub seat_state_code : Coded SeatState
seat_state_code =
    code_by (ℕ × (ℕ × (ℕ × List Item))) (coded× coded_ℕ (coded× coded_ℕ (coded× coded_ℕ (coded_list item_code))))
    (λ s. (s.caller, (s.parts, (s.amount, s.seen))))
    (λ p. record { caller = p.0; parts = p.1.0; amount = p.1.1.0; seen = p.1.1.1 })
    (λ _. refl)

-- the seat that counted an event more
abbrev pub counted : SeatState → SeatState
counted s = record { caller = s.caller; parts = s.parts; amount = s.amount + 1; seen = s.seen }

-- the seat that has seen these records
abbrev pub having_seen : List Item → SeatState → SeatState
having_seen seen s = record { caller = s.caller; parts = s.parts; amount = s.amount; seen = seen }
