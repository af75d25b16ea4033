-- Taking: the entry that a delta makes of another.
use Rattle.std.specs.Prelude.{ℕ, ◌≡◌, ⊤, Bool, true, false, nat_lt, nat_le, ◌==◌, Option, Some, None, if◌then◌else◌}
use Rattle.std.specs.FinMap as map
use Rattle.std.specs.Option.{option_or}
use Rattle.cg_entry.specs.declared.entry.Absorbed.{Absorbed}
use Rattle.cg_entry.specs.declared.entry.Absorbed.TheVariants.{Taken, Old, Gap}
use Rattle.cg_entry.specs.Values.{EntryValue, DeltaValue}
use Rattle.cg_entry.specs.Versioned.{States}
use Rattle.cg_entry.specs.Entry.{greatest, newest, overlay}

-- the entry that a whole delta carries
abbrev pub whole_entry : DeltaValue → Option EntryValue
whole_entry d =
    if d.above == 0 then Some (record { generation = d.generation; heartbeat = d.heartbeat; states = d.states })
    else None

abbrev pub taken_or_gap : Option EntryValue → Absorbed
taken_or_gap None = Gap
taken_or_gap (Some e) = Taken e

-- a test that a delta is taken
abbrev pub is_taken : Absorbed → Bool
is_taken (Taken e) = true
is_taken Old = false
is_taken Gap = false

-- the heartbeat of the delta, its states over those of the entry
abbrev pub advanced_entry : EntryValue → DeltaValue → EntryValue
advanced_entry e d = record { generation = e.generation; heartbeat = d.heartbeat; states = overlay e.states d.states }

-- the outcome of a delta at an entry of its owner: the first case that fits
abbrev pub absorption : EntryValue → DeltaValue → Absorbed
absorption e d =
    if nat_lt d.generation e.generation then Old
    else if nat_lt e.generation d.generation then taken_or_gap (whole_entry d)
    else if nat_le (greatest d.heartbeat d.states) (newest e) then Old
    else if nat_lt (newest e) d.above then Gap
    else Taken (advanced_entry e d)

-- the outcome of a delta, by what is held of its endpoint
abbrev pub meeting : Option EntryValue → DeltaValue → Absorbed
meeting None d = taken_or_gap (whole_entry d)
meeting (Some e) d = absorption e d

-- the entry held afterwards
abbrev pub entry_after : Option EntryValue → Absorbed → Option EntryValue
entry_after held (Taken e) = Some e
entry_after held Old = held
entry_after held Gap = held

-- the states under those of a delta: the states held of its generation
abbrev pub states_under : Option EntryValue → DeltaValue → States
states_under None d = map.empty
states_under (Some e) d = if e.generation == d.generation then e.states else map.empty

-- The entry that a delta leads to: its generation and heartbeat, and at each key its state, or else the one under it.
pub record IsTakenEntry (held : Option EntryValue) (d : DeltaValue) (after : EntryValue) : Type 0 where
  pub generation : after.generation ≡ d.generation
  pub heartbeat : after.heartbeat ≡ d.heartbeat
  pub each : (key : ℕ) → map.get after.states key ≡ option_or (map.get d.states key) (map.get (states_under held d) key)

-- if a delta was taken, a fact of the entry that it led to
abbrev pub IfTaken : Absorbed → (EntryValue → Type 0) → Type 0
IfTaken (Taken e) P = P e
IfTaken Old P = ⊤
IfTaken Gap P = ⊤
