-- A server, as contracts see it, and what a call does to it.
use Rattle.std.specs.Prelude.{ℕ, ◌≡◌, Bool, true, false, List, Result, Ok, Err, IfOk, MatchResult, refl}
use Rattle.std.specs.Coded.{Coded, code_by, coded×, coded_bool}
use Rattle.http.specs.declared.request.Request.{Request}
use Rattle.http_server.specs.declared.response.Response.{Response}
use Rattle.cg_types.specs.declared.fault.Fault.{Fault}
use Rattle.cg_table.specs.Values.{TableValue}
use Rattle.cg_table.specs.Puts.{Put, puts_code, with_puts}
use Rattle.cg_core.specs.Values.{NodeValue}
use Rattle.cg_core.specs.declared.event.Event.{Event}
use Rattle.cg_core.specs.declared.event.Event.TheVariants as event
use Rattle.cg_views.specs.Lists.{StartsWith}
use Rattle.cg_ahead_seats.specs.Gates.{AheadValue, ahead_code}
use Rattle.cg_http.specs.declared.request.Request.{Request as Asked}
use Rattle.cg_http.specs.declared.call.Call.{Call}
use Rattle.cg_http.specs.declared.call.Call.TheVariants as call
use Rattle.cg_http.specs.declared.refusal.Refusal.{Refusal}
use Rattle.cg_http.specs.declared.refusal.Refusal.TheVariants as refusal
use Rattle.cg_http.specs.Asking.{Asks, asked}
use Rattle.cg_web.specs.declared.answer.Answer.{Answer}
use Rattle.cg_web.specs.Answers.{plain, stopping, Refuses, Tells}
use Rattle.cg_web.specs.Parts.{ArePartsOf}
use Rattle.cg_web.specs.Shown.{Shows, Lacks}
use Rattle.cg_web.specs.Changes.{fault_told, Changed, TellsEntered}

-- the gate, the puts that the pass has read or learnt, whether writes are allowed, and whether the node is to stop
pub record WebValue : Type 0 where
  pub gate : AheadValue
  pub pass : List Put
  pub writes : Bool
  pub stopping : Bool

-- the code that a model of such a value requires
abbrev pub web_code : Coded WebValue
web_code =
    code_by (AheadValue × (List Put × (Bool × Bool)))
    (coded× ahead_code (coded× puts_code (coded× coded_bool coded_bool)))
    (λ w. (w.gate, (w.pass, (w.writes, w.stopping))))
    (λ p. record { gate = p.0; pass = p.1.0; writes = p.1.1.0; stopping = p.1.1.1 })
    (λ _. refl)

-- a server that has answered nothing
abbrev pub new_web : AheadValue → List Put → Bool → WebValue
new_web gate pass writes = record { gate = gate; pass = pass; writes = writes; stopping = false }

-- the server is to stop
abbrev pub stopped : WebValue → WebValue
stopped w = record { gate = w.gate; pass = w.pass; writes = w.writes; stopping = true }

-- The server only read: its pass is no further back.
pub record OnlyReads (w v : WebValue) : Type 0 where
  pub gate : v.gate ≡ w.gate
  pub later : StartsWith v.pass w.pass
  pub flags : (v.writes ≡ w.writes) × (v.stopping ≡ w.stopping)

module _ (start : NodeValue) (opening : TableValue) where
  -- The event was done, and its version told; or a fault is told. The pass is no further back.
  pub record Changes (e : Event) (w : WebValue) (r : Result Answer Fault) (v : WebValue) : Type 0 where
    pub changed : Changed start opening.own e (fault_told r) w.gate v.gate
    pub tells : IfOk r (λ a. (a ≡ plain 200 a.body) × TellsEntered start opening.own e w.gate w.pass a.body v.gate v.pass)
    pub later : StartsWith v.pass w.pass
    pub flags : (v.writes ≡ w.writes) × (v.stopping ≡ w.stopping)

  -- The call read the table and the status; or nothing was there to read, or memory ran out.
  abbrev pub ReadsFor : Call → WebValue → Result Answer Fault → WebValue → Type 0
  ReadsFor c w r v = OnlyReads w v × MatchResult r (λ a. Shows (with_puts opening v.pass) c a) Lacks

  -- what a call does, and its answer or the fault that is told
  abbrev pub Does : Call → WebValue → Result Answer Fault → WebValue → Type 0
  Does (call.Set key text) w r v = Changes (event.Set key text) w r v
  Does (call.Remove key) w r v = Changes (event.Remove key) w r v
  Does call.Stop w r v = (v ≡ stopped w) × (r ≡ Ok stopping)
  Does call.Page w r v = ReadsFor call.Page w r v
  Does call.Status w r v = ReadsFor call.Status w r v
  Does (call.Printed view) w r v = ReadsFor (call.Printed view) w r v
  Does (call.ReplicaList token rf) w r v = ReadsFor (call.ReplicaList token rf) w r v
  Does call.Metrics w r v = ReadsFor call.Metrics w r v
  Does call.Health w r v = ReadsFor call.Health w r v

  -- The answer is that of the call, or of its fault.
  abbrev pub Ends : Result Answer Fault → Answer → Type 0
  Ends (Ok done) a = a ≡ done
  Ends (Err f) a = Refuses (refusal.Fault f) a

  -- The call was made, and answered; or the refusal was answered, and the server is as it was.
  abbrev pub Makes : Result Call Refusal → WebValue → Answer → WebValue → Type 0
  Makes (Ok c) w a v = (r : Result Answer Fault) × Does c w r v × Ends r a
  Makes (Err f) w a v = (v ≡ w) × Refuses f a

  -- The answer is that of the call that these parts ask for.
  pub record Serves (p : Asked) (w : WebValue) (a : Answer) (v : WebValue) : Type 0 where
    pub made : Result Call Refusal
    pub asks : Asks made (asked w.writes p)
    pub makes : Makes made w a v

  -- The response tells the answer to the request.
  pub record Answers (w : WebValue) (q : Request (List ℕ)) (response : Response) (v : WebValue) : Type 0 where
    pub parts : Asked
    pub are : ArePartsOf q parts
    pub answer : Answer
    pub serves : Serves parts w answer v
    pub tells : Tells answer response
