-- The seats that workers left, and the work by which they came to be so.
use Rattle.std.specs.Prelude.{◌≡◌, ◌⊎◌, ℕ, List, Option, Result}
use Rattle.rand_core.specs.Stream.{Stream}
use Rattle.cg_types.specs.declared.fault.Fault.{Fault}
use Rattle.cg_core.specs.Values.{NodeValue}
use Rattle.cg_locked.specs.Seat.{SeatState}
use Rattle.cg_ahead_seats.specs.Gates.{AheadValue, new_gate}
use Rattle.cg_agent.specs.Work.{HasAnswered, TurnedOn}
use Rattle.cg_agent.specs.Lines.{DoneLines}
use Rattle.cg_web.specs.Requests.{DoneRequests}

-- A worker began with the first seat and left the other: it answered the connections of a listener.
pub record LeftByAnswers (start : NodeValue) (own : ℕ) {R W L : Type 0} (remaining : R → Option (List ℕ))
    (contents : W → Option (List ℕ)) (accepts : L → Result (Option (R × W)) Fault → L → Type 0) (shows : ℕ → Type 0)
    (listener : L) (first seat : SeatState) : Type 0 where
  pub left : L
  pub gate : AheadValue
  pub answered : HasAnswered start own remaining contents accepts shows (listener, new_gate first) (left, gate)
  pub is : seat ≡ gate.seat

-- The same of one that did rounds, by the words of a stream and by a dialer.
pub record LeftByTurns (start : NodeValue) (own : ℕ) {R W D : Type 0} (remaining : R → Option (List ℕ))
    (contents : W → Option (List ℕ)) (dials : D → ℕ → Result (R × W) Fault → D → Type 0) (shows : ℕ → Type 0)
    (words : Stream) (dialer : D) (first seat : SeatState) : Type 0 where
  pub rest : Stream
  pub left : D
  pub gate : AheadValue
  pub turned : TurnedOn start own remaining contents dials shows (words, (dialer, new_gate first)) (rest, (left, gate))
  pub is : seat ≡ gate.seat

-- The same of one that did an operator's lines.
pub record LeftByLines (start : NodeValue) (own : ℕ) (first seat : SeatState) : Type 0 where
  pub gate : AheadValue
  pub done : DoneLines start own (new_gate first) gate
  pub is : seat ≡ gate.seat

-- The same of one that answered requests over HTTP.
pub record LeftByRequests (start : NodeValue) (own : ℕ) (first seat : SeatState) : Type 0 where
  pub gate : AheadValue
  pub done : DoneRequests start own (new_gate first) gate
  pub is : seat ≡ gate.seat

-- The seat had counted nothing at first, and was left by one of these.
pub record SeatWorked (start : NodeValue) (own : ℕ) {R W L S V D : Type 0} (remaining : R → Option (List ℕ))
    (contents : W → Option (List ℕ)) (accepts : L → Result (Option (R × W)) Fault → L → Type 0)
    (rest : S → Option (List ℕ)) (written : V → Option (List ℕ)) (dials : D → ℕ → Result (S × V) Fault → D → Type 0)
    (shows : ℕ → Type 0) (words : Stream) (dialer : D) (seat : SeatState) : Type 0 where
  pub first : SeatState
  pub unused : first.amount ≡ 0
  pub work : ((listener : L) × LeftByAnswers start own remaining contents accepts shows listener first seat)
      ⊎ (LeftByTurns start own rest written dials shows words dialer first seat
      ⊎ (LeftByLines start own first seat ⊎ LeftByRequests start own first seat))
