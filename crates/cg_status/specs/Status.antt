-- The value of JSON that a status is.
use Prim.Native.String.{String}
use Rattle.std.specs.Prelude.{ℕ, ◌==◌, List, [], ◌∷◌, Option, Some, None, codes, decimal, if◌then◌else◌}
use Rattle.std.specs.FinMap as map
use Rattle.json.specs.Json.{Json, number, string, array, object, Items, no_items, item, Members, no_members, member}
use Rattle.cg_types.specs.EndpointText.{endpoint_text}
use Rattle.cg_types.specs.Key.{key_name}
use Rattle.cg_entry.specs.Versioned.{Versioned}
use Rattle.cg_entry.specs.Values.{EntryValue}
use Rattle.cg_entry.specs.Entry.{newest}
use Rattle.cg_silence.specs.Verdict.{verdict_name}
use Rattle.cg_status.specs.declared.status.Seen.{Seen}
use Rattle.cg_status.specs.declared.status.Counters.{Counters}
use Rattle.cg_status.specs.declared.status.Status.{Status}

-- the first that was seen of an endpoint
abbrev pub seen_of : List Seen → ℕ → Option Seen
seen_of [] e = None
seen_of (s ∷ ss) e = if s.endpoint == e then Some s else seen_of ss e

-- a member whose value is a text, or a number
abbrev pub with_text : String → List ℕ → Members → Members
with_text name text others = member (codes name) (string text) others

abbrev pub with_number : String → ℕ → Members → Members
with_number name n others = member (codes name) (number (decimal n)) others

-- ---- what the node counted

-- the exchanges that broke, by the number of their fault
abbrev pub broken_members : List (ℕ × ℕ) → Members
broken_members [] = no_members
broken_members (b ∷ bs) = member (decimal b.0) (number (decimal b.1)) (broken_members bs)

abbrev pub counters_json : Counters → List (ℕ × ℕ) → Json
counters_json c broken =
    object (with_number "rounds" c.rounds (with_number "begun" c.begun (with_number "answered" c.answered
    (with_number "bytes_in" c.bytes_in (with_number "bytes_out" c.bytes_out (with_number "records" c.records
    (with_number "folded" c.folded (with_number "taken" c.taken (with_number "old" c.old (with_number "gap" c.gap
    (with_number "own" c.own (member (codes "broken") (object (broken_members broken)) no_members))))))))))))

-- ---- what it holds

abbrev pub with_state : ℕ → Option (List ℕ) → Members → Members
with_state key None others = others
with_state key (Some text) others = member (key_name key) (string text) others

-- texts by the names of their keys; nothing of tombstones
abbrev pub state_members : List (ℕ × Versioned) → Members
state_members [] = no_members
state_members (s ∷ ss) = with_state s.0 s.1.text (state_members ss)

abbrev pub states_json : List (ℕ × Versioned) → Json
states_json states = object (state_members states)

abbrev pub with_since : Option ℕ → Members → Members
with_since None others = others
with_since (Some since) others = with_number "since_ms" since others

abbrev pub with_seen : Option Seen → Members → Members
with_seen None others = others
with_seen (Some seen) others = with_text "verdict" (verdict_name seen.verdict) (with_since seen.since others)

abbrev pub row_json : List Seen → ℕ × EntryValue → Json
row_json seen row =
    object (with_text "endpoint" (endpoint_text row.0) (with_number "generation" row.1.generation
    (with_number "heartbeat" row.1.heartbeat (with_number "newest" (newest row.1) (with_seen (seen_of seen row.0)
    (member (codes "states") (states_json (map.entries row.1.states)) no_members))))))

abbrev pub row_items : List Seen → List (ℕ × EntryValue) → Items
row_items seen [] = no_items
row_items seen (row ∷ rows) = item (row_json seen row) (row_items seen rows)

abbrev pub rows_json : List Seen → List (ℕ × EntryValue) → Json
rows_json seen rows = array (row_items seen rows)

-- ---- the status

abbrev pub status_json : Status → List (ℕ × EntryValue) → Json
status_json s rows =
    object (with_text "endpoint" (endpoint_text s.own) (with_number "generation" s.generation
    (with_text "cluster" s.cluster.name (with_number "uptime_ms" s.uptime (with_number "versions_left" s.versions_left
    (member (codes "counters") (counters_json s.counters s.broken.items)
    (member (codes "endpoints") (rows_json s.seen.items rows) no_members)))))))

-- ---- replicas

abbrev pub endpoint_items : List ℕ → Items
endpoint_items [] = no_items
endpoint_items (e ∷ es) = item (string (endpoint_text e)) (endpoint_items es)

abbrev pub endpoints_json : List ℕ → Json
endpoints_json es = array (endpoint_items es)
