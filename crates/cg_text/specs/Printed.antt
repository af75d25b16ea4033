-- Texts by which a program shows what nodes hold and what they did. Each line ends with one line feed.
use Rattle.std.specs.Prelude.{ℕ, List, [], ◌++◌, Option, Some, None, codes, decimal}
use Rattle.std.specs.List.{flat_map}
use Rattle.std.specs.FinMap as map
use Rattle.cg_types.specs.EndpointText.{endpoint_text}
use Rattle.cg_types.specs.Key.{key_name}
use Rattle.cg_entry.specs.Versioned.{Versioned}
use Rattle.cg_entry.specs.Values.{EntryValue}
use Rattle.cg_entry.specs.Entry.{newest}
use Rattle.cg_entry.specs.Took.{took_name}
use Rattle.cg_table.specs.Values.{Entries}
use Rattle.cg_tokens.specs.Tokens.{token_text}
use Rattle.cg_tokens.specs.Ring.{Positions, replicas}
use Rattle.cg_messages.specs.declared.kind.Kind.{Kind}
use Rattle.cg_messages.specs.Kind.{kind_name}
use Rattle.cg_messages.specs.declared.outcome.Outcome.{Outcome}

-- ---- acts of nodes

-- a node started
unfoldable pub started_line : ℕ → ℕ → List ℕ
started_line node generation =
    codes "started " ++ (endpoint_text node ++ (codes " " ++ (decimal generation ++ codes "\n")))

-- the version that a change was given
unfoldable pub version_line : ℕ → List ℕ
version_line version = codes "version " ++ (decimal version ++ codes "\n")

-- the number of a message that was sent, and the name of its kind
unfoldable pub message_line : ℕ → Kind → List ℕ
message_line number kind = codes "message " ++ (decimal number ++ (codes " " ++ (kind_name kind ++ codes "\n")))

-- an endpoint after a space
unfoldable pub peer_word : ℕ → List ℕ
peer_word peer = codes " " ++ endpoint_text peer

-- the peers of a round
unfoldable pub round_line : List ℕ → List ℕ
round_line peers = codes "round" ++ (flat_map peer_word peers ++ codes "\n")

-- the outcome of the delta about an endpoint
unfoldable pub outcome_line : Outcome → List ℕ
outcome_line o = took_name o.took ++ (codes " " ++ (endpoint_text o.endpoint ++ codes "\n"))

abbrev pub outcome_lines : List Outcome → List ℕ
outcome_lines outcomes = flat_map outcome_line outcomes

-- an item of a run: its node, the node's generation, and its number there
unfoldable pub item_line : ℕ → ℕ → ℕ → List ℕ
item_line node generation number =
    endpoint_text node ++ (codes " " ++ (decimal generation ++ (codes " " ++ (decimal number ++ codes "\n"))))

-- an item that can't go
unfoldable pub stuck_line : ℕ → ℕ → ℕ → List ℕ
stuck_line node generation number = codes "stuck " ++ item_line node generation number

-- ---- tables and rings

-- a key's name, its version and its text; nothing of a tombstone
abbrev pub text_line : ℕ → ℕ → Option (List ℕ) → List ℕ
text_line key version None = []
text_line key version (Some text) =
    codes "  " ++ (key_name key ++ (codes ":" ++ (decimal version ++ (codes ":" ++ (text ++ codes "\n")))))

unfoldable pub state_line : ℕ × Versioned → List ℕ
state_line s = text_line s.0 s.1.version s.1.text

unfoldable pub owner_line : ℕ → List ℕ
owner_line owner = codes "/" ++ (endpoint_text owner ++ codes "\n")

unfoldable pub generation_line : ℕ → List ℕ
generation_line generation = codes "  generation:" ++ (decimal generation ++ codes "\n")

unfoldable pub heartbeat_line : ℕ → List ℕ
heartbeat_line heartbeat = codes "  heartbeat:" ++ (decimal heartbeat ++ codes "\n")

-- the entry of an endpoint, its states rising by key
unfoldable pub entry_lines : ℕ × EntryValue → List ℕ
entry_lines e =
    owner_line e.0 ++ (generation_line e.1.generation ++ (heartbeat_line e.1.heartbeat
    ++ flat_map state_line (map.entries e.1.states)))

-- the entry of each endpoint, rising by endpoint
abbrev pub gossipinfo : Entries → List ℕ
gossipinfo entries = flat_map entry_lines (map.entries entries)

-- an endpoint, its generation and its newest version
unfoldable pub digest_line : ℕ × EntryValue → List ℕ
digest_line e =
    endpoint_text e.0 ++ (codes " " ++ (decimal e.1.generation ++ (codes " " ++ (decimal (newest e.1) ++ codes "\n"))))

-- a digest of each entry, rising by endpoint
abbrev pub digest_lines : Entries → List ℕ
digest_lines entries = flat_map digest_line (map.entries entries)

-- a token and the endpoint that has it
unfoldable pub position_line : ℕ × ℕ → List ℕ
position_line p = token_text p.0 ++ (codes " " ++ (endpoint_text p.1 ++ codes "\n"))

-- the positions of a ring, rising by token
abbrev pub ring_lines : Positions → List ℕ
ring_lines positions = flat_map position_line (map.entries positions)

unfoldable pub endpoint_line : ℕ → List ℕ
endpoint_line e = endpoint_text e ++ codes "\n"

-- the first rf endpoints from a token on, clockwise
abbrev pub replica_lines : Positions → ℕ → ℕ → List ℕ
replica_lines positions token rf = flat_map endpoint_line (replicas (map.entries positions) token rf)
