-- Targets of requests: a path, which names a resource, and a query.
use Rattle.std.specs.Prelude.{ℕ, zero, suc, ◌+◌, List, [], Option, Some, None, codes, bytes_eq, take, drop, if◌then◌else◌}
use Rattle.percent_encoding.specs.Percent.{percent_decode}
use Rattle.cg_types.specs.declared.limits.TheConstants.{STATE_LIMIT}
use Rattle.cg_types.specs.OptionSteps.{◌>>=◌}
use Rattle.cg_types.specs.Key.{key_name}
use Rattle.cg_types.specs.Words.{cut_at, key_in}
use Rattle.cg_text.specs.declared.view.View.TheVariants as view
use Rattle.cg_http.specs.declared.call.Resource.{Resource}
use Rattle.cg_http.specs.declared.call.Resource.TheVariants.{Page, Status, Printed, Replicas, Metrics, Health, State, Stop}

abbrev pub front_or : List ℕ → Option (List ℕ × List ℕ) → List ℕ
front_or text None = text
front_or text (Some parts) = parts.0

abbrev pub behind_or_none : Option (List ℕ × List ℕ) → List ℕ
behind_or_none None = []
behind_or_none (Some parts) = parts.1

-- the part before the first byte c, or all if there is none
abbrev pub front_of : ℕ → List ℕ → List ℕ
front_of c text = front_or text (cut_at c text)

-- the part of a target before its first question mark, decoded
abbrev pub path_of : List ℕ → List ℕ
path_of target = percent_decode (front_of 63 target)

-- the part of a target after its first question mark
abbrev pub query_of : List ℕ → List ℕ
query_of target = behind_or_none (cut_at 63 target)

-- the first of n keys, from k on, that has this name
abbrev pub named_from : ℕ → ℕ → List ℕ → Option ℕ
named_from zero k name = None
named_from (suc n) k name = if bytes_eq name (key_name k) then Some k else named_from n (k + 1) name

unfoldable pub key_named : List ℕ → Option ℕ
key_named name = named_from STATE_LIMIT 1 name

abbrev pub or_else : Option ℕ → Option ℕ → Option ℕ
or_else None other = other
or_else (Some k) other = Some k

-- the key of a number or a name
abbrev pub key_called : List ℕ → Option ℕ
key_called word = or_else (key_in word) (key_named word)

-- the state of a path `/states/KEY`
abbrev pub state_at : List ℕ → Option Resource
state_at path =
    if bytes_eq (take 8 path) (codes "/states/") then (key_called (drop 8 path) >>= (λ key. Some (State key))) else None

unfoldable pub printed_at : List ℕ → Option Resource
printed_at path =
    if bytes_eq path (codes "/gossipinfo") then Some (Printed view.Gossipinfo)
    else if bytes_eq path (codes "/ring") then Some (Printed view.Ring)
    else if bytes_eq path (codes "/digests") then Some (Printed view.Digests)
    else state_at path

-- the resource of a path
unfoldable pub resource_at : List ℕ → Option Resource
resource_at path =
    if bytes_eq path (codes "/") then Some Page
    else if bytes_eq path (codes "/status") then Some Status
    else if bytes_eq path (codes "/replicas") then Some Replicas
    else if bytes_eq path (codes "/metrics") then Some Metrics
    else if bytes_eq path (codes "/health") then Some Health
    else if bytes_eq path (codes "/stop") then Some Stop
    else printed_at path
