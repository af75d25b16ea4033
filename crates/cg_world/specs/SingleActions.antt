-- One action alone: the node that it is about, its reply, and the arrivals that the node counts.
use Rattle.std.specs.Prelude.{ℕ, ◌≡◌, ◌≢◌, IsOk, is_ok, is_some, List, [], Some, None, Ok}
use Rattle.std.specs.Option.{option_map_or}
use Rattle.std.specs.FinMap as map
use Rattle.cg_entry.specs.Entry.{removal_of}
use Rattle.cg_entry.specs.History.{at_place}
use Rattle.cg_table.specs.Own.{own_entry}
use Rattle.cg_messages.specs.declared.message.Message.TheVariants as message
use Rattle.cg_messages.specs.Values.{AckValue, Ack2Value}
use Rattle.cg_exchange.specs.Taking.{outcomes_of}
use Rattle.cg_core.specs.declared.reply.Reply.{Reply}
use Rattle.cg_core.specs.declared.reply.Reply.TheVariants as reply
use Rattle.cg_core.specs.SettingsValues.{SettingsValue}
use Rattle.cg_core.specs.Values.{NodeValue}
pub use Rattle.cg_core.specs.Replies.{outcomes_in}
use Rattle.cg_silence.specs.Windows.{arrivals}
use Rattle.cg_core.specs.Step.{next_of, beating, opening, round_peers}
use Rattle.cg_world.specs.World.{Action, Start, Local, Deliver, LocalEvent, Beat, Set, Remove, Tick, WorldValue, reply_to, acting, act, run}
use Rattle.cg_world.specs.Terms.{Runs}

-- Each node that runs has the settings that were given.
abbrev pub SettingsStay : Type 0
SettingsStay =
    (settings : SettingsValue) (actions : List Action) (node : ℕ) (n : NodeValue)
    → Runs (run settings actions) node n → n.settings ≡ settings

-- the node that an action is about
abbrev pub node_acted_on : Action → ℕ
node_acted_on (Start node generation) = node
node_acted_on (Local node change) = node
node_acted_on (Deliver number to now) = to

-- An action changes no other node.
abbrev pub OneNodeChanges : Type 0
OneNodeChanges =
    (c : WorldValue) (action : Action) (other : ℕ) → other ≢ node_acted_on action
    → map.get (act c action).nodes other ≡ map.get c.nodes other

-- ---- replies

pub record AreReplies (c : WorldValue) : Type 0 where
  -- a start has none
  pub start : (node generation : ℕ) → reply_to c (Start node generation) ≡ None
  -- any other action has one exactly if it is done
  pub local : (node : ℕ) (change : LocalEvent)
      → is_some (reply_to c (Local node change)) ≡ is_ok (acting c (Local node change))
  pub delivery : (number to now : ℕ)
      → is_some (reply_to c (Deliver number to now)) ≡ is_ok (acting c (Deliver number to now))
  -- a beat, a set and a removal return the version that they gave
  pub beat : (node : ℕ) (n : NodeValue) (version : ℕ) → Runs c node n → next_of n ≡ Ok version
      → reply_to c (Local node Beat) ≡ Some (reply.Done version)
  pub set : (node key : ℕ) (text : List ℕ) (n : NodeValue) (version : ℕ) → Runs c node n → next_of n ≡ Ok version
      → reply_to c (Local node (Set key text)) ≡ Some (reply.Done version)
  pub remove : (node key : ℕ) (n : NodeValue) (version : ℕ) → Runs c node n
      → removal_of key (own_entry n.table) ≡ Ok version
      → reply_to c (Local node (Remove key)) ≡ Some (reply.Done version)
  -- the peers of a tick are chosen after its beat, at its time, with its words
  pub tick : (node now : ℕ) (words : List ℕ) (n : NodeValue) (version : ℕ) → Runs c node n → next_of n ≡ Ok version
      → reply_to c (Local node (Tick now words))
      ≡ Some (reply.Round (round_peers (beating n) now words) (opening (beating n)))
  -- a delivery returns the outcome of each delta
  pub ack : (number to now : ℕ) (n : NodeValue) (ack : AckValue) (r : Reply) → Runs c to n
      → at_place c.sent number ≡ Some (message.Ack ack) → reply_to c (Deliver number to now) ≡ Some r
      → outcomes_in r ≡ outcomes_of n.table ack.deltas
  pub ack2 : (number to now : ℕ) (n : NodeValue) (ack2 : Ack2Value) (r : Reply) → Runs c to n
      → at_place c.sent number ≡ Some (message.Ack2 ack2) → reply_to c (Deliver number to now) ≡ Some r
      → outcomes_in r ≡ outcomes_of n.table ack2.deltas

abbrev pub RepliesAreOfSteps : Type 0
RepliesAreOfSteps = (c : WorldValue) → AreReplies c

-- ---- windows

pub record AreHeard (c : WorldValue) : Type 0 where
  -- a node that starts heard of nobody
  pub start : (node generation : ℕ) (m : NodeValue) → IsOk (acting c (Start node generation))
      → Runs (act c (Start node generation)) node m → m.windows ≡ map.empty
  -- by itself it hears of nobody
  pub local : (node : ℕ) (change : LocalEvent) (n m : NodeValue) → Runs c node n
      → Runs (act c (Local node change)) node m → m.windows ≡ n.windows
  -- each delta that was taken is an arrival of its owner at the time of the delivery
  pub delivery : (number to now : ℕ) (n m : NodeValue) → Runs c to n → Runs (act c (Deliver number to now)) to m
      → m.windows
      ≡ arrivals n.settings.silence now n.windows (option_map_or outcomes_in (reply_to c (Deliver number to now)) [])

-- Nodes hear of others by deliveries alone.
abbrev pub NodesHearByDeliveries : Type 0
NodesHearByDeliveries = (c : WorldValue) → AreHeard c
