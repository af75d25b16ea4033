-- The work of each of a node's workers, by a gate that had no receipts.
use Rattle.std.specs.Prelude.{ℕ, ◌≡◌, List, [], Option, Result}
use Rattle.rand_core.specs.Stream.{Stream}
use Rattle.cg_types.specs.declared.fault.Fault.{Fault}
use Rattle.cg_table.specs.Values.{TableValue}
use Rattle.cg_table.specs.Puts.{Put}
use Rattle.cg_core.specs.Values.{NodeValue}
use Rattle.cg_history.specs.declared.item.Receipt.{Receipt}
use Rattle.cg_workers.specs.declared.round.Round.{Round}
use Rattle.cg_workers.specs.declared.ends.Putting.{Putting}
use Rattle.cg_workers.specs.declared.turns.Turns.{Turns}
use Rattle.cg_locked.specs.Seats.{SeatValue, Enters, Refuses, new_gate}
use Rattle.cg_workers.specs.declared.ticked.Ticked.{Ticked}
use Rattle.cg_workers.specs.Ticks.{Ticks}
use Rattle.cg_workers.specs.Each.{Each}
use Rattle.cg_workers.specs.Workers.{Received, SentRound}
use Rattle.cg_threads.specs.declared.callers.TheConstants.{RECEIVER, SENDER, TICKER, OPERATOR}
use Rattle.cg_threads.specs.Left.{Work}

-- ---- the receiver and the sender

-- Parameters: the start of the node, the own endpoint of its views, a reader's rest, a writer's contents, the times of
-- a clock, and the worker's caller.
module _ (start : NodeValue) (own : ℕ) {R W : Type 0} (remaining : R → Option (List ℕ)) (contents : W → Option (List ℕ))
    (shows : ℕ → Type 0) (caller : ℕ) where
  -- Connections that a listener accepted were answered, as many as were wanted or until no further one came. These are
  -- the receipts.
  pub record HasReceived {L : Type 0} (accepts : L → Result (Option (R × W)) Fault → L → Type 0) (wanted : ℕ)
      (listener : L) (receipts : List Receipt) : Type 0 where
    pub parts : ℕ
    pub count : ℕ
    pub left : L
    pub gate : SeatValue
    pub received : Received (Enters start own) (Refuses start) (λ g h. h ≡ g) remaining contents accepts shows wanted
        count (listener, new_gate caller parts) (left, gate)
    pub same : receipts ≡ gate.receipts

  -- Rounds were sent by a dialer, one after the other. These are the receipts.
  pub record HasSent {D : Type 0} (dials : D → ℕ → Result (R × W) Fault → D → Type 0) (dialer : D)
      (rounds : List Round) (receipts : List Receipt) : Type 0 where
    pub parts : ℕ
    pub left : D
    pub gate : SeatValue
    pub sent : Each (SentRound (Enters start own) (Refuses start) (λ g h. h ≡ g) remaining contents dials shows) rounds
        (dialer, new_gate caller parts) (left, gate)
    pub same : receipts ≡ gate.receipts

-- ---- the ticker

-- Rounds were begun, up to the number wanted, at a clock's times and by a generator's words. These are the receipts.
pub record HasBegun (start : NodeValue) (own : ℕ) (shows : ℕ → Type 0) (caller wanted : ℕ) (words : Stream)
    (receipts : List Receipt) : Type 0 where
  pub parts : ℕ
  pub left : Ticked
  pub gate : SeatValue
  pub before : Putting
  pub after : Putting
  pub ticks : Ticks (λ (g : SeatValue). g.receipts) (Enters start own) (Refuses start) shows wanted words left
      (new_gate caller parts, before) (gate, after)
  pub same : receipts ≡ gate.receipts

-- ---- the operator

-- an operator's work: the start of the node, the opening table of its views; the operator, its gate and what its pass
-- has read or learnt, before and after
abbrev pub Operation : Type 0 → Type 1
Operation O = NodeValue → TableValue → O → SeatValue → List Put → SeatValue → List Put → O → Type 0

-- The operator worked with a pass that had read nothing. These are the receipts.
pub record HasOperated (start : NodeValue) (opening : TableValue) (caller : ℕ) {O : Type 0} (works : Operation O)
    (operator : O) (receipts : List Receipt) : Type 0 where
  pub parts : ℕ
  pub left : O
  pub gate : SeatValue
  pub read : List Put
  pub done : works start opening operator (new_gate caller parts) [] gate read left
  pub same : receipts ≡ gate.receipts

-- ---- all workers

-- The workers of a node with this start worked in these turns: the receiver by a listener, the sender by a dialer, the
-- ticker by a generator's words, and the operator. The first three worked at the times of one clock.
pub record HaveWorked (start : NodeValue) {R W L S V D O : Type 0}
    (remaining : R → Option (List ℕ)) (contents : W → Option (List ℕ)) (accepts : L → Result (Option (R × W)) Fault → L → Type 0)
    (rest : S → Option (List ℕ)) (written : V → Option (List ℕ)) (dials : D → ℕ → Result (S × V) Fault → D → Type 0)
    (works : Operation O) (shows : ℕ → Type 0) (listener : L) (dialer : D) (words : Stream) (operates : O) (turns : Turns)
    (w : Work) : Type 0 where
  pub receiver : HasReceived start start.table.own remaining contents shows RECEIVER accepts turns.exchanges listener w.receiver
  pub sender : HasSent start start.table.own rest written shows SENDER dials dialer w.taken w.sender
  pub ticker : HasBegun start start.table.own shows TICKER turns.rounds words w.ticker
  pub operator : HasOperated start start.table OPERATOR works operates w.operator
