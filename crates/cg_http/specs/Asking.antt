-- The call that a request asks for, or why it is refused.
use Rattle.std.specs.Prelude.{ℕ, ◌≡◌, ◌⊎◌, Bool, true, false, ◌&&◌, not, nat_lt, List, length, Option, Some, None, Result, Ok, Err, MatchResult, codes, bytes_eq, if◌then◌else◌}
use Rattle.std.specs.Option.{option_copied}
use Rattle.cg_types.specs.declared.fault.Fault.{Fault}
use Rattle.cg_types.specs.declared.fault.Fault.TheVariants.{OutOfMemory, BadText}
use Rattle.cg_text.specs.declared.view.View.TheVariants as view
use Rattle.cg_text.specs.Words.{state_text_in}
use Rattle.cg_http.specs.declared.request.Request.{Request}
use Rattle.cg_http.specs.declared.call.Resource.{Resource}
use Rattle.cg_http.specs.declared.call.Resource.TheVariants as resource
use Rattle.cg_http.specs.declared.call.Call.{Call}
use Rattle.cg_http.specs.declared.call.Call.TheVariants.{Page, Status, Printed, ReplicaList, Metrics, Health, Set, Remove, Stop}
use Rattle.cg_http.specs.declared.refusal.Refusal.{Refusal}
use Rattle.cg_http.specs.declared.refusal.Refusal.TheVariants as refusal
use Rattle.cg_http.specs.declared.asking.TheConstants.{BODY_LIMIT}
use Rattle.cg_http.specs.Paths.{path_of, query_of, resource_at}
use Rattle.cg_http.specs.Queries.{replicas_in, wants_json}
use Rattle.cg_http.specs.Writes.{may_write}
use Rattle.cg_http.specs.Calls.{methods_of, has_method, are_writes}

-- The call returns the expected result, unless memory ran out first.
abbrev pub Asks : Result Call Refusal → Result Call Refusal → Type 0
Asks r due = MatchResult r (λ call. due ≡ Ok call) (λ f. (f ≡ refusal.Fault OutOfMemory) ⊎ (due ≡ Err f))

abbrev pub replicas_as : Bool → Option (ℕ × ℕ) → Result Call Refusal
replicas_as is_json None = Err (refusal.Fault BadText)
replicas_as is_json (Some r) = if is_json then Ok (ReplicaList r.0 r.1) else Ok (Printed (view.Replicas r.0 r.1))

abbrev pub replicas_call : List ℕ → Bool → Result Call Refusal
replicas_call query is_json = replicas_as is_json (replicas_in query)

abbrev pub set_or_fault : ℕ → Result (List ℕ) Fault → Result Call Refusal
set_or_fault key (Ok text) = Ok (Set key text)
set_or_fault key (Err f) = Err (refusal.Fault f)

abbrev pub set_call : ℕ → List ℕ → Result Call Refusal
set_call key body = set_or_fault key (state_text_in body)

abbrev pub state_call : ℕ → Request → Result Call Refusal
state_call key r = if bytes_eq r.method.now (codes "PUT") then set_call key r.body.now else Ok (Remove key)

-- the call at a resource, by one of its methods
abbrev pub call_at : Resource → Request → Result Call Refusal
call_at resource.Page r = Ok Page
call_at resource.Status r = Ok Status
call_at (resource.Printed form) r = Ok (Printed form)
call_at resource.Replicas r = replicas_call (query_of r.target.now) (wants_json (option_copied r.accept))
call_at resource.Metrics r = Ok Metrics
call_at resource.Health r = Ok Health
call_at (resource.State key) r = state_call key r
call_at resource.Stop r = Ok Stop

abbrev pub allowed_call : Resource → Bool → Request → Result Call Refusal
allowed_call at writes r =
    if not (has_method (methods_of at) r.method.now) then Err (refusal.NotAllowed (methods_of at))
    else if are_writes (methods_of at) && not (may_write writes r) then Err refusal.Forbidden
    else call_at at r

abbrev pub found_call : Option Resource → Bool → Request → Result Call Refusal
found_call None writes r = Err refusal.NotFound
found_call (Some at) writes r = allowed_call at writes r

-- the call that a request asks for, where writes are allowed or not
abbrev pub asked : Bool → Request → Result Call Refusal
asked writes r =
    if nat_lt BODY_LIMIT (length r.body.now) then Err refusal.TooLarge
    else found_call (resource_at (path_of r.target.now)) writes r

-- The call changes the node.
abbrev pub is_write : Call → Bool
is_write Page = false
is_write Status = false
is_write (Printed form) = false
is_write (ReplicaList token rf) = false
is_write Metrics = false
is_write Health = false
is_write (Set key text) = true
is_write (Remove key) = true
is_write Stop = true
