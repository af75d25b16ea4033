-- A chain of answered requests changes keys by events, one after the other.
use Rattle.std.proofs.Common.{◌≡◌, ◌⊎◌, inl, inr, List, [], ◌∷◌, Result, Ok, Err, ap, subst}
use Rattle.http_server.specs.Exchange.{Calls, Chain}
use Rattle.http_server.specs.Exchange as exchange
use Rattle.cg_types.specs.declared.fault.Fault.{Fault}
use Rattle.cg_table.specs.Values.{TableValue}
use Rattle.cg_core.specs.Values.{NodeValue}
use Rattle.cg_core.specs.declared.event.Event.TheVariants as event
use Rattle.cg_ahead_seats.specs.Gates.{AheadValue}
use Rattle.cg_http.specs.declared.call.Call.{Call}
use Rattle.cg_http.specs.declared.call.Call.TheVariants as call
use Rattle.cg_http.specs.declared.refusal.Refusal.{Refusal}
use Rattle.cg_web.specs.declared.answer.Answer.{Answer}
use Rattle.cg_web.specs.Changes.{fault_told}
use Rattle.cg_web.specs.Serving.{WebValue, Does, Makes, Answers}
use Rattle.cg_web.specs.Requests.{Change, DoneChange, DoneRequests}

module _ (start : NodeValue) (opening : TableValue) where
  -- one change at the gate, or none
  abbrev pub Moves : AheadValue → AheadValue → Type 0
  Moves g h = (h ≡ g) ⊎ ((c : Change) × DoneChange start opening.own c g h)

  does_moves : (c : Call) (w : WebValue) (r : Result Answer Fault) (v : WebValue) → Does start opening c w r v → Moves w.gate v.gate
  does_moves (call.Set key text) w r v d = inr ((event.Set key text, fault_told r), d.changed)
  does_moves (call.Remove key) w r v d = inr ((event.Remove key, fault_told r), d.changed)
  does_moves call.Stop w r v d = inl (ap (λ (x : WebValue). x.gate) d.0)
  does_moves call.Page w r v d = inl d.0.gate
  does_moves call.Status w r v d = inl d.0.gate
  does_moves (call.Printed view) w r v d = inl d.0.gate
  does_moves (call.ReplicaList token rf) w r v d = inl d.0.gate
  does_moves call.Metrics w r v d = inl d.0.gate
  does_moves call.Health w r v d = inl d.0.gate

  makes_moves : (made : Result Call Refusal) (w : WebValue) (a : Answer) (v : WebValue) → Makes start opening made w a v → Moves w.gate v.gate
  makes_moves (Ok c) w a v m = does_moves c w m.0 v m.1
  makes_moves (Err f) w a v m = inl (ap (λ (x : WebValue). x.gate) m.0)

  more : (g h k : AheadValue) → Moves g h → DoneRequests start opening.own h k → DoneRequests start opening.own g k
  more g h k (inl same) done = subst (λ (x : AheadValue). DoneRequests start opening.own x k) same done
  more g h k (inr one) done = (one.0 ∷ done.0, (h, one.1, done.1))

  chain_done : (calls : List exchange.Call) (w v : WebValue) → Chain (Answers start opening) w calls v → DoneRequests start opening.own w.gate v.gate
  chain_done [] w v same = ([], ap (λ (x : WebValue). x.gate) same)
  chain_done (c ∷ calls) w v all =
      more w.gate all.0.gate v.gate (makes_moves all.1.serves.made w all.1.answer all.0 all.1.serves.makes)
      (chain_done calls all.0 v all.2)

  pub calls_done : (w v : WebValue) (before after : List exchange.Call) → Calls (Answers start opening) w v before after
      → DoneRequests start opening.own w.gate v.gate
  calls_done w v before after calls = chain_done calls.0 w v calls.2
