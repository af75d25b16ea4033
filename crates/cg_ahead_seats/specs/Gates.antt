-- A gate over a seat whose receipts are confirmed at once, as contracts see it, and its steps.
use Rattle.std.specs.Prelude.{ℕ, ◌≡◌, ◌+◌, ◌⊎◌, Bool, true, false, List, Option, None, Some, Ok, Err, IfSome, option_map, refl}
use Rattle.std.specs.Coded.{Coded, code_by, coded×, coded_bool, coded_option}
use mathlib.Core.List.{IsPrefix}
use Rattle.cg_types.specs.declared.fault.Fault.{Fault}
use Rattle.cg_types.specs.declared.fault.Fault.TheVariants as fault
use Rattle.cg_table.specs.Puts.{Put, puts_code}
use Rattle.cg_core.specs.declared.event.Event.{Event}
use Rattle.cg_core.specs.declared.reply.Reply.{Reply}
use Rattle.cg_core.specs.Values.{NodeValue}
use Rattle.cg_history.specs.declared.item.Receipt.{Receipt}
use Rattle.cg_history.specs.declared.item.Item.{Item}
use Rattle.cg_history.specs.Items.{receipt_code}
use Rattle.cg_locked.specs.Seat.{SeatState, seat_state_code}
use Rattle.cg_locked.specs.Entry.{IsEntered, ShowsChange}
use Rattle.cg_locked.specs.Seats.{IsReceiptOf}
use Rattle.cg_ahead_seats.specs.Confirmed.{WasConfirmed}

-- the seat, the receipt of the last event done and its told, and whether an event met a journal that could not be written
pub record AheadValue : Type 0 where
  pub seat : SeatState
  pub last : Option Receipt
  pub told : Option (List Put)
  pub torn : Bool

-- the code that a model of such a value requires
abbrev pub ahead_code : Coded AheadValue
ahead_code =
    code_by (SeatState × (Option Receipt × (Option (List Put) × Bool)))
    (coded× seat_state_code (coded× (coded_option receipt_code) (coded× (coded_option puts_code) coded_bool)))
    (λ g. (g.seat, (g.last, (g.told, g.torn))))
    (λ p. record { seat = p.0; last = p.1.0; told = p.1.1.0; torn = p.1.1.1 })
    (λ _. refl)

-- a gate that has done nothing
abbrev pub new_gate : SeatState → AheadValue
new_gate seat = record { seat = seat; last = None; told = None; torn = false }

abbrev pub with_told : AheadValue → Option (List Put) → AheadValue
with_told g told = record { seat = g.seat; last = g.last; told = told; torn = g.torn }

-- the gate without its last receipt and its told
abbrev pub forgotten : AheadValue → AheadValue
forgotten g = record { seat = g.seat; last = None; told = None; torn = g.torn }

-- The gate went on by one event with its reply. From its seat, which counted it, one record was made, of its caller and
-- the event. Its receipt was confirmed by the history that has the record as its last one, and is the gate's last
-- receipt. Its told shows its change of the views' own endpoint.
pub record Enters (start : NodeValue) (own : ℕ) (g : AheadValue) (e : Event) (answer : Reply) (h : AheadValue) : Type 0
  where
    pub receipt : Receipt
    pub is : IsReceiptOf g.seat.caller e answer receipt
    pub entry : IsEntered start g.seat e h.seat.seen (Ok (receipt, h.told))
    pub confirmed : WasConfirmed start h.seat.seen receipt
    pub last : h.last ≡ Some receipt
    pub counted : h.seat.amount ≡ g.seat.amount + 1
    pub seat : (h.seat.caller ≡ g.seat.caller) × (h.seat.parts ≡ g.seat.parts)
    pub torn : h.torn ≡ g.torn
    pub shown : IfSome h.told (λ t. ShowsChange t own e answer)

-- The event is refused as an entry of it is; or memory was short, or the journal could not be written.
abbrev pub Refuses : NodeValue → AheadValue → Event → Fault → Type 0
Refuses start g e f = (f ≡ fault.OutOfMemory) ⊎ ((seen : List Item) × IsEntered start g.seat e seen (Err f))

-- The gate after an event that was refused. Its seat counted none, so there is no record of it; but there may be one if
-- the journal could not be written.
pub record Stays (g h : AheadValue) : Type 0 where
  pub counted : (h.torn ≡ true) ⊎ ((h.torn ≡ g.torn) × (h.seat.amount ≡ g.seat.amount))
  pub seen : IsPrefix g.seat.seen h.seat.seen
  pub seat : (h.seat.caller ≡ g.seat.caller) × (h.seat.parts ≡ g.seat.parts)
  pub same : (h.last ≡ g.last) × (h.told ≡ g.told)

abbrev pub last_reply : AheadValue → Option Reply
last_reply g = option_map (λ q. q.reply) g.last
