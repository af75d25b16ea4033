-- Nodes that start.
use Rattle.std.specs.Prelude.{ℕ, zero, suc, ◌+◌, ◌≡◌, List, [], ◌∷◌, ◌++◌, Some, Ok, length, set, slice_get, codes}
use Rattle.cg_types.specs.declared.limits.TheConstants.{PARTITIONER, STATE_LIMIT}
use Rattle.cg_types.specs.Numbers.{endpoint_of}
use Rattle.cg_silence.specs.Values.{default_silence}
use Rattle.cg_table.specs.Own.{own_entry}
use Rattle.cg_testing.specs.Nearest.{nearest_number}
use Rattle.cg_core.specs.declared.event.Event.{Event}
use Rattle.cg_core.specs.declared.event.Event.TheVariants as event
use Rattle.cg_core.specs.declared.reply.Reply.{Reply}
use Rattle.cg_core.specs.SettingsValues.{SettingsValue, settings_of_parts}
use Rattle.cg_core.specs.Values.{NodeValue}
use Rattle.cg_core.specs.Step.{starting_node, node_step}

-- the endpoint of a place: 10.0.HIGH.LOW:7000, of the two bytes of the place
abbrev pub endpoint_at : ℕ → ℕ
endpoint_at place = endpoint_of (167772160 + place) 7000

-- the cluster c1, the nodes of the first three places as seeds, and the default silence
abbrev pub fleet_settings : SettingsValue
fleet_settings =
    settings_of_parts (record { name = codes "c1"; partitioner = PARTITIONER })
    (endpoint_at 0 ∷ endpoint_at 1 ∷ endpoint_at 2 ∷ []) default_silence

-- A node sets a key to some text.
pub record SetsKey (key : ℕ) (n m : NodeValue) : Type 0 where
  pub text : List ℕ
  pub reply : Reply
  pub step : node_step n (event.Set key text) ≡ Ok (m, reply)

-- One thing was done, and then another.
pub record Both {X : Type 0} (First Second : X → X → Type 0) (x y : X) : Type 0 where
  pub mid : X
  pub first : First x mid
  pub second : Second mid y

-- A node sets the keys from 1 to this one, one after the other.
abbrev pub SetsKeys : ℕ → NodeValue → NodeValue → Type 0
SetsKeys zero n m = n ≡ m
SetsKeys (suc key) n m = Both (SetsKeys key) (SetsKey (suc key)) n m

-- A node of a place started in a generation, and set all its keys.
abbrev pub HasStarted : SettingsValue → ℕ → ℕ → NodeValue → Type 0
HasStarted settings place generation n =
    SetsKeys STATE_LIMIT (starting_node (endpoint_at place) generation settings) n

-- One more node starts, in its first generation.
pub record Joins (settings : SettingsValue) (ns ms : List NodeValue) : Type 0 where
  pub node : NodeValue
  pub has_started : HasStarted settings (length ns) 1 node
  pub are : ms ≡ ns ++ node ∷ []

-- So many nodes started, one after the other, and did nothing else.
pub record JoinsLast (Before : List NodeValue → Type 0) (settings : SettingsValue) (ns : List NodeValue) : Type 0 where
  pub before : List NodeValue
  pub were : Before before
  pub joins : Joins settings before ns

abbrev pub HaveJoined : ℕ → SettingsValue → List NodeValue → Type 0
HaveJoined zero settings ns = ns ≡ []
HaveJoined (suc count) settings ns = JoinsLast (HaveJoined count settings) settings ns

-- The node of a place starts in its next generation, and has forgotten what it held.
pub record Restarts (settings : SettingsValue) (place : ℕ) (ns ms : List NodeValue) : Type 0 where
  pub before : NodeValue
  pub was : slice_get ns place ≡ Some before
  pub node : NodeValue
  pub has_started : HasStarted settings place (nearest_number ((own_entry before.table).generation + 1)) node
  pub are : ms ≡ set ns place node

-- The node of a place takes the step of an event, and replies.
pub record Steps (place : ℕ) (e : Event) (ns : List NodeValue) (r : Reply) (ms : List NodeValue) : Type 0 where
  pub before : NodeValue
  pub was : slice_get ns place ≡ Some before
  pub after : NodeValue
  pub step : node_step before e ≡ Ok (after, r)
  pub are : ms ≡ set ns place after
