-- Lists of members in messages: they rise strictly by endpoint, and are few.
use Rattle.std.specs.Prelude.{ℕ, Bool, ◌≤◌, ◌&&◌, ◌==◌, nat_le, Option, None, List, find, map, length}
use Rattle.cg_types.specs.declared.limits.TheConstants.{MEMBER_LIMIT}
use Rattle.cg_types.specs.Rising.{Rises, rise_past}
use Rattle.cg_entry.specs.Values.{DeltaValue}
use Rattle.cg_entry.specs.declared.digest.Digest.{Digest}
use Rattle.cg_messages.specs.declared.owner_delta.OwnerDelta.{OwnerDelta}
use Rattle.cg_messages.specs.declared.outcome.Outcome.{Outcome}
use Rattle.cg_messages.specs.Values.{RequestValue}

-- These endpoints can be in one list of a message.
pub record AreListed (endpoints : List ℕ) : Type 0 where
  pub rise : Rises endpoints
  pub few : length endpoints ≤ MEMBER_LIMIT

-- a test that these endpoints can be in one list of a message
abbrev pub is_member_list : List ℕ → Bool
is_member_list endpoints = nat_le (length endpoints) MEMBER_LIMIT && rise_past None endpoints

-- the endpoint that each member is about
abbrev pub endpoints_of_digests : List Digest → List ℕ
endpoints_of_digests digests = map (λ d. d.endpoint) digests

abbrev pub endpoints_of_requests : List RequestValue → List ℕ
endpoints_of_requests requests = map (λ r. r.endpoint) requests

abbrev pub endpoints_of_deltas : List OwnerDelta → List ℕ
endpoints_of_deltas deltas = map (λ d. d.endpoint) deltas

abbrev pub endpoints_of_outcomes : List Outcome → List ℕ
endpoints_of_outcomes outcomes = map (λ o. o.endpoint) outcomes

-- the digest about an owner, if there is one
abbrev pub digest_about : ℕ → List Digest → Option Digest
digest_about owner digests = find (λ d. d.endpoint == owner) digests

-- a delta about an owner
abbrev pub about : ℕ → DeltaValue → OwnerDelta
about owner d = record { endpoint = owner; delta = d }
