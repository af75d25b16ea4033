-- The tokens of parts of a status.
use Prim.Native.String.{String}
use Rattle.std.specs.Prelude.{ℕ, List, [], ◌∷◌, ◌++◌, Option, Some, None, codes, decimal}
use Rattle.json.specs.Token.{Token, key, string, number}
use Rattle.json.specs.Tree.{json_tokens}
use Rattle.cg_types.specs.EndpointText.{endpoint_text}
use Rattle.cg_types.specs.Key.{key_name}
use Rattle.cg_entry.specs.Versioned.{Versioned}
use Rattle.cg_entry.specs.Values.{EntryValue}
use Rattle.cg_entry.specs.Entry.{newest}
use Rattle.cg_silence.specs.Verdict.{verdict_name}
use Rattle.cg_status.specs.declared.status.Seen.{Seen}
use Rattle.cg_status.specs.declared.status.Counters.{Counters}
use Rattle.cg_status.specs.declared.status.Status.{Status}
use Rattle.cg_status.specs.Status.{row_json}

abbrev pub number_member : String → ℕ → List Token
number_member name n = key (codes name) ∷ number (decimal n) ∷ []

abbrev pub text_member : String → List ℕ → List Token
text_member name text = key (codes name) ∷ string text ∷ []

abbrev pub traffic_tokens : Counters → List Token
traffic_tokens c =
    number_member "rounds" c.rounds ++ (number_member "begun" c.begun ++ (number_member "answered" c.answered
    ++ (number_member "bytes_in" c.bytes_in ++ (number_member "bytes_out" c.bytes_out
    ++ (number_member "records" c.records ++ number_member "folded" c.folded)))))

abbrev pub delta_tokens : Counters → List Token
delta_tokens c =
    number_member "taken" c.taken ++ (number_member "old" c.old
    ++ (number_member "gap" c.gap ++ number_member "own" c.own))

abbrev pub broken_tokens : ℕ × ℕ → List Token
broken_tokens b = key (decimal b.0) ∷ number (decimal b.1) ∷ []

abbrev pub state_tokens : ℕ → Option (List ℕ) → List Token
state_tokens k None = []
state_tokens k (Some text) = key (key_name k) ∷ string text ∷ []

abbrev pub pair_tokens : ℕ × Versioned → List Token
pair_tokens s = state_tokens s.0 s.1.text

abbrev pub endpoint_tokens : ℕ → List Token
endpoint_tokens e = string (endpoint_text e) ∷ []

abbrev pub since_tokens : Option ℕ → List Token
since_tokens None = []
since_tokens (Some since) = number_member "since_ms" since

abbrev pub seen_tokens : Option Seen → List Token
seen_tokens None = []
seen_tokens (Some seen) = text_member "verdict" (verdict_name seen.verdict) ++ since_tokens seen.since

abbrev pub number_tokens : EntryValue → List Token
number_tokens e =
    number_member "generation" e.generation ++ (number_member "heartbeat" e.heartbeat
    ++ number_member "newest" (newest e))

abbrev pub row_tokens : List Seen → ℕ × EntryValue → List Token
row_tokens seen row = json_tokens (row_json seen row)

abbrev pub head_tokens : Status → List Token
head_tokens s =
    text_member "endpoint" (endpoint_text s.own) ++ (number_member "generation" s.generation
    ++ (text_member "cluster" s.cluster.name ++ (number_member "uptime_ms" s.uptime
    ++ number_member "versions_left" s.versions_left)))
