-- The contents of digests, entries and deltas: numbers in their ranges, and plain and short texts.
use Rattle.std.specs.Prelude.{ℕ, IfSome}
use Rattle.std.specs.List.{AllByRecursion}
use Rattle.std.specs.FinMap as map
use Rattle.cg_types.specs.Numbers.{IsEndpoint, IsGeneration, IsVersion, IsVersionHeld, IsKey}
use Rattle.cg_types.specs.Text.{IsStateText}
use Rattle.cg_entry.specs.declared.digest.Digest.{Digest}
use Rattle.cg_entry.specs.Values.{EntryValue, DeltaValue}
use Rattle.cg_entry.specs.Versioned.{Versioned, States}
use Rattle.cg_entry.specs.Entry.{IsDelta}

pub record IsDigest (d : Digest) : Type 0 where
  pub endpoint : IsEndpoint d.endpoint
  pub generation : IsGeneration d.generation
  pub newest : IsVersion d.newest

-- a state with its key; a tombstone has no text
pub record IsState (s : ℕ × Versioned) : Type 0 where
  pub key : IsKey s.0
  pub version : IsVersion s.1.version
  pub text : IfSome s.1.text IsStateText

-- the states of a map
abbrev pub AreStates : States → Type 0
AreStates states = AllByRecursion IsState (map.entries states)

pub record IsEntry (e : EntryValue) : Type 0 where
  pub generation : IsGeneration e.generation
  pub heartbeat : IsVersion e.heartbeat
  pub states : AreStates e.states

-- Each state of the delta is newer than the version that the delta is above, and something is.
pub record IsDeltaOfEntry (d : DeltaValue) : Type 0 where
  pub generation : IsGeneration d.generation
  pub above : IsVersionHeld d.above
  pub heartbeat : IsVersion d.heartbeat
  pub states : AreStates d.states
  pub carries : IsDelta d.above d.heartbeat d.states
