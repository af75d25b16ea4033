-- Messages that a layout can spell, field by field, as reading meets them.
use Rattle.std.specs.Prelude.{ℕ, ◌≡◌, ◌<◌, ◌≤◌, ◌^◌, true, List, length, Option, Some, None}
use Rattle.std.specs.List.{AllByRecursion}
use Rattle.std.specs.FinMap as map
use Rattle.cg_types.specs.Numbers.{IsEndpoint, IsGeneration, IsVersion, IsVersionHeld, IsKey}
use Rattle.cg_types.specs.Rising.{Rises}
use Rattle.cg_types.specs.Text.{plain, IsClusterName}
use Rattle.cg_entry.specs.Versioned.{Versioned}
use Rattle.cg_entry.specs.Entry.{greatest}
use Rattle.cg_messages.specs.declared.owner_delta.OwnerDelta.{OwnerDelta}
use Rattle.cg_messages.specs.declared.message.Message.{Message}
use Rattle.cg_messages.specs.declared.message.Message.TheVariants.{Syn, Ack, Ack2}
use Rattle.cg_messages.specs.Values.{SynValue, AckValue, Ack2Value}
use Rattle.cg_messages.specs.Members.{endpoints_of_digests, endpoints_of_requests, endpoints_of_deltas}
use Rattle.cg_entry.specs.Contents.{IsDigest}
use Rattle.cg_messages.specs.Contents.{IsRequest}
use Rattle.cg_frames.specs.declared.layout.Layout.{Layout}

-- a plain and short text, or a tombstone, if the layout has them
abbrev pub FitsValue : Layout → Option (List ℕ) → Type 0
FitsValue layout (Some text) = (plain text ≡ true) × (length text ≤ layout.text)
FitsValue layout None = layout.tombstones ≡ true

-- a state of a delta above a version
pub record FitsState (layout : Layout) (above : ℕ) (s : ℕ × Versioned) : Type 0 where
  pub key : IsKey s.0
  pub version : IsVersion s.1.version
  pub newer : above < s.1.version
  pub value : FitsValue layout s.1.text

-- The keys of a finite map rise; with their range there are no more states than keys.
pub record FitsDelta (layout : Layout) (d : OwnerDelta) : Type 0 where
  pub endpoint : IsEndpoint d.endpoint
  pub generation : IsGeneration d.delta.generation
  pub above : IsVersionHeld d.delta.above
  pub heartbeat : IsVersion d.delta.heartbeat
  pub states : AllByRecursion (FitsState layout d.delta.above) (map.entries d.delta.states)
  pub something : d.delta.above < greatest d.delta.heartbeat d.delta.states

-- members of a list
pub record FitsMembers (layout : Layout) (endpoints : List ℕ) : Type 0 where
  pub rise : Rises endpoints
  pub few : length endpoints ≤ layout.members

pub record FitsSyn (layout : Layout) (m : SynValue) : Type 0 where
  pub name : IsClusterName m.cluster.name
  pub partitioner : m.cluster.partitioner < 2 ^ 8
  pub listed : FitsMembers layout (endpoints_of_digests m.digests)
  pub digests : AllByRecursion IsDigest m.digests

pub record FitsAck (layout : Layout) (m : AckValue) : Type 0 where
  pub asked : FitsMembers layout (endpoints_of_requests m.requests)
  pub requests : AllByRecursion IsRequest m.requests
  pub listed : FitsMembers layout (endpoints_of_deltas m.deltas)
  pub deltas : AllByRecursion (FitsDelta layout) m.deltas

pub record FitsAck2 (layout : Layout) (m : Ack2Value) : Type 0 where
  pub listed : FitsMembers layout (endpoints_of_deltas m.deltas)
  pub deltas : AllByRecursion (FitsDelta layout) m.deltas

-- The layout can spell each field of the message.
abbrev pub FitsFields : Layout → Message → Type 0
FitsFields layout (Syn m) = FitsSyn layout m
FitsFields layout (Ack m) = FitsAck layout m
FitsFields layout (Ack2 m) = FitsAck2 layout m
