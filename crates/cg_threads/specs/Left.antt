-- The results of a node's workers: models and rules.
use Rattle.std.specs.Prelude.{ℕ, ◌≡◌, ◌++◌, Bool, true, false, List, map, refl}
use Rattle.std.specs.Coded.{Coded, code_by, coded×, coded_bool, coded_ℕ, coded_list}
use Rattle.std.specs.List.{All}
use mathlib.Core.List.{IsPrefix}
use Rattle.cg_core.specs.declared.event.Event.{Event}
use Rattle.cg_core.specs.declared.event.Event.TheVariants as event
use Rattle.cg_history.specs.declared.item.Receipt.{Receipt}
use Rattle.cg_history.specs.Items.{receipt_code}
use Rattle.cg_workers.specs.declared.round.Round.{Round}
use Rattle.cg_workers.specs.declared.ends.Putting.{Putting}
use Rattle.cg_workers.specs.declared.ends.Taking.{Taking}
use Rattle.cg_workers.specs.declared.ends.Taken.{Taken}
use Rattle.cg_workers.specs.Ends.{put_by, taken_in, PutsWhere, IsLeftOf, WereTakenOf}
use Rattle.cg_workers.specs.TickLaws.{rounds_in}
use Rattle.cg_workers.specs.Workers.{numbers_of}
use Rattle.cg_threads.specs.declared.callers.TheConstants.{RECEIVER, SENDER, TICKER, OPERATOR}

-- ---- kinds of events

-- an event of the receiver
abbrev pub is_received : Event → Bool
is_received (event.Syn m) = true
is_received (event.Ack2 now m) = true
is_received e = false

-- an event of the sender
abbrev pub is_ack : Event → Bool
is_ack (event.Ack now m) = true
is_ack e = false

-- an event of the ticker
abbrev pub is_tick : Event → Bool
is_tick (event.Tick now words) = true
is_tick e = false

-- an event of the operator, which may be any
abbrev pub is_any : Event → Bool
is_any e = true

-- ---- results

-- true if the worker began; the parts of its seat, and the receipts that the seat has counted
pub record LeftValue : Type 0 where
  pub began : Bool
  pub parts : ℕ
  pub receipts : List Receipt

-- the code that a model of such a value requires
abbrev pub left_code : Coded LeftValue
left_code =
    code_by (Bool × (ℕ × List Receipt)) (coded× coded_bool (coded× coded_ℕ (coded_list receipt_code)))
    (λ l. (l.began, (l.parts, l.receipts)))
    (λ p. record { began = p.0; parts = p.1.0; receipts = p.1.1 }) (λ _. refl)

-- The receipt is the caller's, of an event of the kind.
pub record IsOfKind (kind : Event → Bool) (caller : ℕ) (q : Receipt) : Type 0 where
  pub own : q.caller ≡ caller
  pub fits : kind q.event ≡ true

-- The receipts are the caller's, of events of the kind.
abbrev pub AreOfKind : (Event → Bool) → ℕ → List Receipt → Type 0
AreOfKind kind caller receipts = All (IsOfKind kind caller) receipts

-- The seat has the parts that it began with; the receipts are its caller's, of events of the kind.
pub record IsLeft (kind : Event → Bool) (caller parts : ℕ) (l : LeftValue) : Type 0 where
  pub same_parts : l.parts ≡ parts
  pub own_receipts : AreOfKind kind caller l.receipts

-- The end that is left holds the rounds that were taken, and these are their numbers.
pub record HasTaken (before : Taking) (taken : Taken) (numbers : List ℕ) : Type 0 where
  pub channel : IsLeftOf before taken
  pub are_of : numbers ≡ numbers_of (taken_in taken)

-- the numbers of receipts
abbrev pub numbers_of_all : List Receipt → List ℕ
numbers_of_all receipts = map (λ (q : Receipt). q.number) receipts

-- The first of the receipts have these rounds, and each receipt has one.
pub record AreRoundsOf (receipts : List Receipt) (rounds : List Round) : Type 0 where
  pub are_first : IsPrefix rounds (rounds_in receipts)
  pub each : numbers_of (rounds_in receipts) ≡ numbers_of_all receipts

-- The end is the same, and the rounds that were put in there are those of the first of the receipts.
pub record HasPut (before after : Putting) (receipts : List Receipt) : Type 0 where
  pub channel : PutsWhere after before
  pub rounds : AreRoundsOf receipts (put_by after)

-- ---- all workers

-- the receipts of each worker, and the rounds that the sender took
pub record Work : Type 0 where
  pub receiver : List Receipt
  pub sender : List Receipt
  pub ticker : List Receipt
  pub operator : List Receipt
  pub taken : List Round

-- all receipts: the receiver's, the sender's, the ticker's and the operator's
abbrev pub receipts_of : Work → List Receipt
receipts_of w = w.receiver ++ w.sender ++ w.ticker ++ w.operator

-- The receipts are those of the receiver, the sender, the ticker and the operator.
pub record AreOfWorkers (receiver sender ticker operator : List Receipt) : Type 0 where
  pub of_receiver : AreOfKind is_received RECEIVER receiver
  pub of_sender : AreOfKind is_ack SENDER sender
  pub of_ticker : AreOfKind is_tick TICKER ticker
  pub of_operator : AreOfKind is_any OPERATOR operator

-- These are the numbers of the rounds that were taken at the other end of the channel. The rounds that were put in
-- there are those of the first of the ticker's receipts.
pub record AreTaken (putting : Putting) (taken : Taken) (numbers : List ℕ) (ticker : List Receipt) : Type 0 where
  pub channel : WereTakenOf putting taken
  pub are_of : numbers ≡ numbers_of (taken_in taken)
  pub rounds : AreRoundsOf ticker (put_by putting)
