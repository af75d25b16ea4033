-- The members of messages and their lists, read from left to right.
use Rattle.std.specs.Prelude.{ℕ, zero, suc, Bool, ◌||◌, not, List, [], ◌∷◌, Option, Some, None, Ok, nat_lt, ◌==◌, if◌then◌else◌}
use Rattle.std.specs.FinMap as map
use Rattle.cg_types.specs.declared.fault.Cause.TheVariants as causes
use Rattle.cg_types.specs.ResultSteps.{◌>>=◌}
use Rattle.cg_entry.specs.declared.state.State.{State}
use Rattle.cg_entry.specs.State.{pairs}
use Rattle.cg_entry.specs.declared.digest.Digest.{Digest}
use Rattle.cg_messages.specs.declared.owner_delta.OwnerDelta.{OwnerDelta}
use Rattle.cg_messages.specs.Values.{RequestValue}
use Rattle.cg_frames.specs.declared.layout.Layout.{Layout}
use Rattle.cg_frames.specs.Fields.{Field, wrong, count_at, endpoint_at, generation_at, version_at, heartbeat_at, held_at, version_above_at, key_at, state_count_at, value_at}

unfoldable pub digest_at : Option ℕ → List ℕ → Field Digest
digest_at last bytes = do
  endpoint ← endpoint_at last bytes
  generation ← generation_at endpoint.1
  newest ← version_at generation.1
  Ok (record { endpoint = endpoint.0; generation = generation.0; newest = newest.0 }, newest.1)

-- a request, which has to come after the last one of its list
unfoldable pub request_at : Option ℕ → List ℕ → Field RequestValue
request_at last bytes = do
  endpoint ← endpoint_at last bytes
  generation ← generation_at endpoint.1
  version ← held_at causes.Version generation.1
  Ok (record { endpoint = endpoint.0; generation = generation.0; version = version.0 }, version.1)

-- a state of a delta above a version
unfoldable pub state_at : Layout → ℕ → Option ℕ → List ℕ → Field State
state_at layout above last bytes = do
  key ← key_at last bytes
  version ← version_above_at above key.1
  text ← value_at layout version.1
  Ok (record { key = key.0; version = version.0; text = text.0 }, text.1)

-- The members, n of them, each of which comes after the one before it.
unfoldable pub rising_at : {X : Type 0} → (X → ℕ) → (Option ℕ → List ℕ → Field X) → ℕ → Option ℕ → List ℕ
    → Field (List X)
rising_at key one zero last bytes = Ok ([], bytes)
rising_at key one (suc n) last bytes = do
  first ← one last bytes
  others ← rising_at key one n (Some (key first.0)) first.1
  Ok (first.0 ∷ others.0, others.1)

abbrev pub digests_at : ℕ → Option ℕ → List ℕ → Field (List Digest)
digests_at = rising_at (λ d. d.endpoint) digest_at

-- n requests, rising by endpoint
abbrev pub requests_at : ℕ → Option ℕ → List ℕ → Field (List RequestValue)
requests_at = rising_at (λ r. r.endpoint) request_at

-- n states of a delta above a version, rising by key
abbrev pub states_at : Layout → ℕ → ℕ → Option ℕ → List ℕ → Field (List State)
states_at layout above = rising_at (λ s. s.key) (state_at layout above)

-- `true` if a delta carries something above `above`: each of its states does.
abbrev pub carries : ℕ → ℕ → ℕ → Bool
carries above heartbeat count = nat_lt above heartbeat || not (count == 0)

-- the delta of its parts; if it carries nothing, the fault is at its first byte
abbrev pub delta_from : List ℕ → ℕ → ℕ → ℕ → ℕ → ℕ → List State → List ℕ → Field OwnerDelta
delta_from bytes endpoint generation above heartbeat count states rest =
    if carries above heartbeat count
    then Ok (
      record {
        endpoint = endpoint;
        delta = record {
          generation = generation;
          above = above;
          heartbeat = heartbeat;
          states = map.from_sorted (pairs states);
        };
      },
      rest,
    )
    else wrong causes.Empty bytes

-- a delta, which has to come after the last one of its list
unfoldable pub delta_at : Layout → Option ℕ → List ℕ → Field OwnerDelta
delta_at layout last bytes = do
  endpoint ← endpoint_at last bytes
  generation ← generation_at endpoint.1
  above ← held_at causes.Above generation.1
  heartbeat ← heartbeat_at above.1
  count ← state_count_at heartbeat.1
  states ← states_at layout above.0 count.0 None count.1
  delta_from bytes endpoint.0 generation.0 above.0 heartbeat.0 count.0 states.0 states.1

-- n deltas, rising by endpoint
abbrev pub deltas_at : Layout → ℕ → Option ℕ → List ℕ → Field (List OwnerDelta)
deltas_at layout = rising_at (λ d. d.endpoint) (delta_at layout)

-- two bytes of count, and the requests
abbrev pub listed_requests_at : Layout → List ℕ → Field (List RequestValue)
listed_requests_at layout bytes = do
  count ← count_at layout bytes
  requests_at count.0 None count.1

-- two bytes of count, and the deltas
abbrev pub listed_deltas_at : Layout → List ℕ → Field (List OwnerDelta)
listed_deltas_at layout bytes = do
  count ← count_at layout bytes
  deltas_at layout count.0 None count.1
