-- The requests of a connection: the bytes that were read and written, and what was done at the gate.
use Rattle.std.specs.Prelude.{ℕ, List, Option, Result, OnOk}
use Rattle.std.specs.Io.KnownBytes.{Appends, Consumes}
use Rattle.http_server.specs.Exchange.{Chain}
use Rattle.http_server.specs.History.{History, IsServed, IsDone}
use Rattle.cg_types.specs.declared.fault.Fault.{Fault}
use Rattle.cg_table.specs.Values.{TableValue}
use Rattle.cg_core.specs.Values.{NodeValue}
use Rattle.cg_core.specs.declared.event.Event.{Event}
use Rattle.cg_workers.specs.Each.{Each}
use Rattle.cg_ahead_seats.specs.Gates.{AheadValue}
use Rattle.cg_web.specs.declared.limits.TheConstants.{LIMITS}
use Rattle.cg_web.specs.Changes.{Changed}
use Rattle.cg_web.specs.Serving.{WebValue, Answers}

-- an event, and the fault that was told of it
abbrev pub Change : Type 0
Change = Event × Option Fault

module _ (start : NodeValue) (own : ℕ) where
  abbrev pub DoneChange : Change → AheadValue → AheadValue → Type 0
  DoneChange c g h = Changed start own c.0 c.1 g h

  -- The requests changed keys by these events, one after the other, and did nothing else at the gate.
  abbrev pub DoneRequests : AheadValue → AheadValue → Type 0
  DoneRequests g h = (changes : List Change) × Each DoneChange changes g h

-- What was written answers the requests that were read, in their order, within the limits: each by the response of the
-- server, which went on from one request to the next.
pub record Speaks (start : NodeValue) (opening : TableValue) {T E : Type 0} (result : Result T E)
    (unread left written more : Option (List ℕ)) (w v : WebValue) : Type 0 where
  pub history : History
  pub read : Consumes unread left history.received
  pub sent : Appends written more history.sent
  pub served : ∥ IsServed LIMITS history ∥₁
  pub calls : Chain (Answers start opening) w history.calls v
  pub done : OnOk result (IsDone history)
