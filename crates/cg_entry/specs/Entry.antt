-- Entries: starts, beats, sets, removals, and the part above a version.
use Rattle.std.specs.Prelude.{ℕ, ◌+◌, ◌≡◌, ◌<◌, Bool, false, ◌&&◌, ◌||◌, ◌==◌, ◌++◌, List, [], ◌∷◌, length, sum_by, nat_lt, nat_le, max, Option, Some, None, is_some, Result, Err, if◌then◌else◌}
use Rattle.std.specs.List.{filter}
use Rattle.std.specs.FinMap as map
use Rattle.cg_types.specs.declared.fault.Fault.{Fault}
use Rattle.cg_types.specs.declared.fault.Fault.TheVariants.{NoSuchKey}
use Rattle.cg_version.specs.Version.{next_version}
use Rattle.cg_entry.specs.Values.{EntryValue, DeltaValue}
use Rattle.cg_entry.specs.Versioned.{Versioned, States}

-- the greatest of n and the versions
abbrev pub greatest_of : ℕ → List (ℕ × Versioned) → ℕ
greatest_of n [] = n
greatest_of n (s ∷ ss) = greatest_of (max n s.1.version) ss

-- the greatest of a heartbeat version and the versions of states
abbrev pub greatest : ℕ → States → ℕ
greatest heartbeat states = greatest_of heartbeat (map.entries states)

-- the number of bytes of a text; a tombstone has none
abbrev pub text_size : Option (List ℕ) → ℕ
text_size None = 0
text_size (Some text) = length text

-- the number of bytes of the texts of states
abbrev pub text_bytes : States → ℕ
text_bytes states = sum_by (λ s. text_size s.1.text) (map.entries states)

-- the states with a version greater than v
abbrev pub newer_than : ℕ → States → States
newer_than v states = map.from_sorted (filter (λ s. nat_lt v s.1.version) (map.entries states))

-- the new states, and at every other key the old ones
abbrev pub overlay : States → States → States
overlay old new = map.from_entries (map.entries new ++ map.entries old)

-- the entry of an endpoint that starts
abbrev pub starting_entry : ℕ → EntryValue
starting_entry generation = record { generation = generation; heartbeat = 1; states = map.empty }

-- the greatest version in an entry
abbrev pub newest : EntryValue → ℕ
newest e = greatest e.heartbeat e.states

-- the entry after a heartbeat
abbrev pub entry_after_beat : EntryValue → EntryValue
entry_after_beat e = record { generation = e.generation; heartbeat = newest e + 1; states = e.states }

-- the entry after a key is given a text, or the tombstone of the text that it had
abbrev pub with_state : ℕ → Option (List ℕ) → EntryValue → EntryValue
with_state key text e = record {
  generation = e.generation;
  heartbeat = e.heartbeat;
  states = map.insert e.states key (record { text = text; version = newest e + 1 });
}

-- a test that a text stands there, and not nothing or a tombstone
abbrev pub is_text : Option Versioned → Bool
is_text None = false
is_text (Some v) = is_some v.text

-- a test that a key has a text
abbrev pub has_text : ℕ → EntryValue → Bool
has_text key e = is_text (map.get e.states key)

-- the text that stands there, with its version; nothing of a tombstone
abbrev pub text_standing : Option Versioned → Option Versioned
text_standing None = None
text_standing (Some v) = if is_some v.text then Some v else None

-- the version of a key's removal, or why it is refused
abbrev pub removal_of : ℕ → EntryValue → Result ℕ Fault
removal_of key e = if has_text key e then next_version (newest e) else Err NoSuchKey

-- Entry x is later than y: of a greater generation, or of the same one with a greater version.
abbrev pub is_later : EntryValue → EntryValue → Bool
is_later x y = nat_lt y.generation x.generation || (x.generation == y.generation && nat_lt (newest y) (newest x))

-- the part of an entry above v
abbrev pub part_above : ℕ → EntryValue → DeltaValue
part_above v e = record { generation = e.generation; above = v; heartbeat = e.heartbeat; states = newer_than v e.states }

-- the part of an entry that a holder at v lacks
abbrev pub delta_above : ℕ → EntryValue → Option DeltaValue
delta_above v e = if nat_le (newest e) v then None else Some (part_above v e)

-- Each state is newer, and something is.
pub record IsDelta (above heartbeat : ℕ) (states : States) : Type 0 where
  pub newer : newer_than above states ≡ states
  pub something : above < greatest heartbeat states
