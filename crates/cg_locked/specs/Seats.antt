-- A gate over a seat as contracts see it, and its steps.
use Rattle.std.specs.Prelude.{ℕ, ◌-◌, ◌≡◌, ◌⊎◌, List, [], ◌∷◌, ◌++◌, length, Option, None, Result, Ok, Err, IfSome, option_map, slice_get, refl}
use Rattle.std.specs.Coded.{Coded, code_by, coded×, coded_ℕ, coded_list, coded_option}
use Rattle.std.specs.List.{All}
use Rattle.cg_types.specs.declared.fault.Fault.{Fault}
use Rattle.cg_types.specs.declared.fault.Fault.TheVariants as fault
use Rattle.cg_table.specs.Puts.{Put, puts_code}
use Rattle.cg_core.specs.declared.event.Event.{Event}
use Rattle.cg_core.specs.declared.reply.Reply.{Reply}
use Rattle.cg_core.specs.Values.{NodeValue}
use Rattle.cg_history.specs.declared.item.Receipt.{Receipt}
use Rattle.cg_history.specs.declared.item.Item.{Item}
use Rattle.cg_history.specs.Items.{receipt_code}
use Rattle.cg_history.specs.Confirming.{AreConfirmed}
use Rattle.cg_locked.specs.Seat.{SeatState}
use Rattle.cg_locked.specs.Entry.{Answer, IsEntered, ShowsChange}

-- the seat's caller and parts, the receipts, and the told of the last event
pub record SeatValue : Type 0 where
  pub caller : ℕ
  pub parts : ℕ
  pub receipts : List Receipt
  pub told : Option (List Put)

-- the code that a model of such a value requires
abbrev pub seat_code : Coded SeatValue
seat_code =
    code_by (ℕ × (ℕ × (List Receipt × Option (List Put))))
    (coded× coded_ℕ (coded× coded_ℕ (coded× (coded_list receipt_code) (coded_option puts_code))))
    (λ g. (g.caller, (g.parts, (g.receipts, g.told))))
    (λ p. record { caller = p.0; parts = p.1.0; receipts = p.1.1.0; told = p.1.1.1 })
    (λ _. refl)

-- a gate that has done nothing
abbrev pub new_gate : ℕ → ℕ → SeatValue
new_gate caller parts = record { caller = caller; parts = parts; receipts = []; told = None }

abbrev pub with_told : SeatValue → Option (List Put) → SeatValue
with_told g told = record { caller = g.caller; parts = g.parts; receipts = g.receipts; told = told }

-- The receipts are the caller's.
abbrev pub AreOfCaller : ℕ → List Receipt → Type 0
AreOfCaller caller receipts = All (λ q. q.caller ≡ caller) receipts

-- the reply of the last receipt
abbrev pub last_reply : List Receipt → Option Reply
last_reply receipts = option_map (λ q. q.reply) (slice_get receipts (length receipts - 1))

-- The receipt is the caller's, of this event and reply.
abbrev pub IsReceiptOf : ℕ → Event → Reply → Receipt → Type 0
IsReceiptOf caller e answer q = (q.caller ≡ caller) × (q.event ≡ e) × (q.reply ≡ answer)

-- The seat is of the gate: it is its caller's, it counted the receipts, and the records that it has seen confirm them.
pub record IsSeatOf (g : SeatValue) (seat : SeatState) : Type 0 where
  pub caller : seat.caller ≡ g.caller
  pub counted : seat.amount ≡ length g.receipts
  pub confirmed : AreConfirmed 0 seat.seen g.receipts

-- An event was entered from the gate's seat into the history of the node with this start.
pub record HasEntered (start : NodeValue) (g : SeatValue) (e : Event) (result : Result Answer Fault) : Type 0 where
  pub seat : SeatState
  pub is : IsSeatOf g seat
  pub seen : List Item
  pub entry : IsEntered start seat e seen result

-- The gate went on by one event with its reply. The event was entered from its seat. Its receipt is kept after those
-- that the gate has, and its told shows its Set of the views' own endpoint.
pub record Enters (start : NodeValue) (own : ℕ) (g : SeatValue) (e : Event) (answer : Reply) (h : SeatValue) : Type 0
  where
    pub receipt : Receipt
    pub is : IsReceiptOf g.caller e answer receipt
    pub entry : HasEntered start g e (Ok (receipt, h.told))
    pub receipts : h.receipts ≡ g.receipts ++ receipt ∷ []
    pub seat : (h.caller ≡ g.caller) × (h.parts ≡ g.parts)
    pub shown : IfSome h.told (λ t. ShowsChange t own e answer)

-- The event is refused as an entry of it is, or for want of room for its receipt.
abbrev pub Refuses : NodeValue → SeatValue → Event → Fault → Type 0
Refuses start g e f = (f ≡ fault.OutOfMemory) ⊎ HasEntered start g e (Err f)

-- The gate went on: its seat is the same, and its receipts begin with those that it had.
pub record GoesOn (g h : SeatValue) : Type 0 where
  pub seat : (h.caller ≡ g.caller) × (h.parts ≡ g.parts)
  pub more : List Receipt
  pub receipts : h.receipts ≡ g.receipts ++ more

-- the faults that end an operator
abbrev pub IsOperatorFault : Fault → Type 0
IsOperatorFault fault.OutOfMemory = Unit {0}
IsOperatorFault fault.ReadFault = Unit {0}
IsOperatorFault fault.WriteFault = Unit {0}
IsOperatorFault fault.NoSuchNode = Unit {0}
IsOperatorFault f = ⊥
