-- Rules of a node that ran, and of one that did not.
use Rattle.std.specs.Prelude.{ℕ, ◌+◌, ◌≡◌, ◌⊎◌, Bool, true, false, List, length}
use Rattle.std.specs.List.{All}
use mathlib.Core.List.{IsPrefix}
use Rattle.cg_types.specs.declared.fault.Fault.TheVariants as fault
use Rattle.cg_core.specs.declared.event.Event.{Event}
use Rattle.cg_core.specs.Values.{NodeValue}
use Rattle.cg_history.specs.declared.item.Item.{Item}
use Rattle.cg_history.specs.declared.item.Receipt.{Receipt}
use Rattle.cg_history.specs.declared.item.UnconfirmedReceipt.{UnconfirmedReceipt}
use Rattle.cg_history.specs.Confirming.{AreConfirmed, IsFirstUnconfirmed}
use Rattle.cg_history.specs.History.{HistoryValue, IsReplayed}
use Rattle.cg_locked.specs.declared.shared.Unconfirmed.{Unconfirmed}
use Rattle.cg_locked.specs.Shared.{unconfirmed_receipt}
use Rattle.cg_threads.specs.declared.callers.TheConstants.{RECEIVER, SENDER, TICKER, OPERATOR}
use Rattle.cg_threads.specs.declared.ran.NotRun.{NotRun}
use Rattle.cg_threads.specs.declared.ran.NotRun.TheVariants as not_run
use Rattle.cg_workers.specs.TickLaws.{rounds_in}
use Rattle.cg_workers.specs.Workers.{numbers_of}
use Rattle.cg_threads.specs.Left.{Work, receipts_of, AreOfWorkers, is_received, is_ack, is_tick}
use Rattle.cg_threads.specs.Numbers.{numbers_in}

-- The first unconfirmed receipt of these is counted after `before` others.
abbrev pub IsUnconfirmedBehind : ℕ → ℕ → List Item → List Receipt → UnconfirmedReceipt → Type 0
IsUnconfirmedBehind before folded records receipts unconfirmed =
    (place : ℕ) × (unconfirmed.place ≡ before + place)
    × IsFirstUnconfirmed folded records receipts (record { place = place; fault = unconfirmed.fault })

-- The event is of a kind that the worker of the caller does.
abbrev pub IsWork : ℕ → Event → Type 0
IsWork caller e =
    ((caller ≡ RECEIVER) × (is_received e ≡ true)) ⊎ ((caller ≡ SENDER) × (is_ack e ≡ true))
    ⊎ ((caller ≡ TICKER) × (is_tick e ≡ true)) ⊎ (caller ≡ OPERATOR)

-- any work
abbrev pub AnyWork : Work → Type 0
AnyWork w = Unit {0}

-- The history began at the start, and none of its records is folded. There are as many receipts of the workers as it
-- has records, and this is how they worked.
pub record IsOfWork (start : NodeValue) (worked : Work → Type 0) (h : HistoryValue) (w : Work) : Type 0 where
  pub whole : h.folded ≡ 0
  pub base : h.base ≡ start
  pub done : worked w
  pub theirs : AreOfWorkers w.receiver w.sender w.ticker w.operator
  pub counted : length (receipts_of w) ≡ length h.records

-- These are the numbers of the rounds that the sender took, which are the first of the ticker's.
pub record AreNumbered (h : HistoryValue) (w : Work) (numbers : List ℕ) : Type 0 where
  pub are_of : numbers ≡ numbers_of w.taken
  pub are_first : IsPrefix w.taken (rounds_in w.ticker)
  pub recorded : IsPrefix numbers (numbers_in TICKER is_tick h.records)

-- The history replays from its start, no record is folded, and each record is of a worker's event. It confirms all
-- receipts of the workers, of which there are as many as records. The rounds taken are the first of the ticker's, in
-- their order.
pub record IsRun (start : NodeValue) (worked : Work → Type 0) (h : HistoryValue) (numbers : List ℕ) : Type 0 where
  pub work : Work
  pub of_work : IsOfWork start worked h work
  pub confirmed : AreConfirmed h.folded h.records (receipts_of work)
  pub rounds : AreNumbered h work numbers
  pub replayed : IsReplayed h
  pub kinds : All (λ (r : Item). IsWork r.caller r.event) h.records

-- The history began at the start, and does not confirm all receipts of the workers, of which there are as many as
-- records. This is the first that it does not confirm.
pub record IsUnconfirmed (start : NodeValue) (worked : Work → Type 0) (u : Unconfirmed) : Type 0 where
  pub work : Work
  pub of_work : IsOfWork start worked u.history work
  pub unconfirmed : IsFirstUnconfirmed u.history.folded u.history.records (receipts_of work) (unconfirmed_receipt u)

-- The first of these receipts that the history does not confirm is the one named, and they are as many as its records.
abbrev pub UnconfirmedIn : List Receipt → NotRun → Type 0
UnconfirmedIn receipts (not_run.Unstarted f) = Unit {0}
UnconfirmedIn receipts (not_run.Unconfirmed u) =
    IsFirstUnconfirmed u.history.folded u.history.records receipts (unconfirmed_receipt u)
    × (length receipts ≡ length u.history.records)

-- If a node did not run, not all workers began; if its history is not confirmed, they did.
abbrev pub TellsStart : Bool → NotRun → Type 0
TellsStart began (not_run.Unstarted f) = began ≡ false
TellsStart began (not_run.Unconfirmed u) = began ≡ true

-- no node ran, or its history is not confirmed
abbrev pub IsNotRun : NodeValue → (Work → Type 0) → NotRun → Type 0
IsNotRun start worked (not_run.Unstarted f) = f ≡ fault.OutOfMemory
IsNotRun start worked (not_run.Unconfirmed u) = IsUnconfirmed start worked u
