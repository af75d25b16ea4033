-- The nodes of a cluster as they run, and what they sent, after a list of actions.
use Rattle.std.specs.Prelude.{◌==◌, false, ℕ, ◌+◌, ◌||◌, Bool, List, [], ◌∷◌, ◌++◌, length, Option, Some, None, Result, Ok, Err, nat_lt, map as map_list, if◌then◌else◌, refl}
use Rattle.std.specs.Coded.{Coded, code_by, coded×, coded_ℕ, coded_list}
use Rattle.std.specs.Option.{option_map, option_and_then}
use Rattle.std.specs.Ordering.{nat_cmp}
use Rattle.std.specs.FinMap as map
use Rattle.cg_types.specs.declared.fault.Fault.{Fault}
use Rattle.cg_types.specs.declared.fault.Fault.TheVariants.{TableFull, NotRising, NoSuchMessage, NoSuchNode}
use Rattle.cg_types.specs.declared.limits.TheConstants.{MEMBER_LIMIT}
use Rattle.cg_entry.specs.History.{at_place}
use Rattle.cg_table.specs.Values.{Entries}
use Rattle.cg_table.specs.Own.{own_entry}
use Rattle.cg_messages.specs.declared.message.Message.{Message}
use Rattle.cg_messages.specs.MessageCode.{message_code}
use Rattle.cg_core.specs.declared.event.Event.{Event}
use Rattle.cg_core.specs.declared.event.Event.TheVariants as event
use Rattle.cg_core.specs.declared.reply.Reply.{Reply}
use Rattle.cg_core.specs.SettingsValues.{SettingsValue, settings_code}
use Rattle.cg_core.specs.Values.{NodeValue, node_code}
use Rattle.cg_core.specs.Step.{Step, starting_node, node_step}
pub use Rattle.cg_core.specs.Step.{arrival_of}
pub use Rattle.cg_places.specs.Step.{message_of}
pub use Rattle.cg_world.specs.declared.action.Action.{Action}
pub use Rattle.cg_world.specs.declared.action.Action.TheVariants.{Start, Local, Deliver}
pub use Rattle.cg_world.specs.declared.action.LocalEvent.{LocalEvent}
pub use Rattle.cg_world.specs.declared.action.LocalEvent.TheVariants.{Beat, Set, Remove, Opening, Tick}
use Rattle.cg_places.specs.PlaceWorld.{PlaceWorld, PlaceAction, nobody, world_after}
use Rattle.cg_places.specs.PlaceWorld as places
use Rattle.cg_places.specs.Refusals.{done_from}

pub record WorldValue : Type 0 where
  -- all nodes start with these
  pub settings : SettingsValue
  -- the nodes that run, by their endpoints
  pub nodes : map.FinMap nat_cmp NodeValue
  -- all messages that were ever sent, the first one first; they are numbered from 1
  pub sent : List Message

-- the code that a model of such a value requires
abbrev pub world_code : Coded WorldValue
world_code =
    code_by (SettingsValue × (map.FinMap nat_cmp NodeValue × List Message))
    (coded× settings_code (coded× (map.code coded_ℕ node_code) (coded_list message_code)))
    (λ c. (c.settings, (c.nodes, c.sent))) (λ p. record { settings = p.0; nodes = p.1.0; sent = p.1.1 }) (λ _. refl)

-- no node runs
abbrev pub new_world : SettingsValue → WorldValue
new_world settings = record { settings = settings; nodes = map.empty; sent = [] }

-- the table of each node
abbrev pub tables_of : WorldValue → ℕ → Option Entries
tables_of c node = option_map (λ n. n.table.entries) (map.get c.nodes node)

-- ---- the world after a step

-- the node is now this one
abbrev pub with_node : WorldValue → ℕ → NodeValue → WorldValue
with_node c node n = record { settings = c.settings; nodes = map.insert c.nodes node n; sent = c.sent }

-- this message was sent, if there is one
abbrev pub with_sent : WorldValue → Option Message → WorldValue
with_sent c None = c
with_sent c (Some m) = record { settings = c.settings; nodes = c.nodes; sent = c.sent ++ m ∷ [] }

-- A node's step leaves the new node, and the message of its reply is sent.
abbrev pub after_step : WorldValue → ℕ → Step → Result WorldValue Fault
after_step c node (Ok x) = Ok (with_sent (with_node c node x.0) (message_of x.1))
after_step c node (Err fault) = Err fault

-- the step of a node at an event, if it runs
abbrev pub step_of : Option NodeValue → Event → Step
step_of None e = Err NoSuchNode
step_of (Some n) e = node_step n e

-- and at a message, if it was sent
abbrev pub step_at : WorldValue → ℕ → ℕ → Option Message → Step
step_at c to now None = Err NoSuchMessage
step_at c to now (Some m) = step_of (map.get c.nodes to) (arrival_of now m)

-- ---- actions

-- the generation of a node's own entry, and 0 if it never started
abbrev pub generation_held : Option NodeValue → ℕ
generation_held None = 0
generation_held (Some n) = (own_entry n.table).generation

-- `true` if the node runs, or there may be one more
abbrev pub has_room : WorldValue → ℕ → Bool
has_room c node = map.contains_key c.nodes node || nat_lt (map.len c.nodes) MEMBER_LIMIT

-- A start makes the node anew, in a generation that rises.
abbrev pub starting : WorldValue → ℕ → ℕ → Result WorldValue Fault
starting c node generation =
    if nat_lt (generation_held (map.get c.nodes node)) generation
    then if has_room c node then Ok (with_node c node (starting_node node generation c.settings)) else Err TableFull
    else Err NotRising

abbrev pub event_of : LocalEvent → Event
event_of Beat = event.Beat
event_of (Set key text) = event.Set key text
event_of (Remove key) = event.Remove key
event_of Opening = event.Opening
event_of (Tick now words) = event.Tick now words

-- the world after an action, or the fault with which it is refused
abbrev pub acting : WorldValue → Action → Result WorldValue Fault
acting c (Start node generation) = starting c node generation
acting c (Local node change) = after_step c node (step_of (map.get c.nodes node) (event_of change))
acting c (Deliver number to now) = after_step c to (step_at c to now (at_place c.sent number))

-- A refused action changes nothing.
abbrev pub or_unchanged : WorldValue → Result WorldValue Fault → WorldValue
or_unchanged c (Ok d) = d
or_unchanged c (Err fault) = c

abbrev pub act : WorldValue → Action → WorldValue
act c action = or_unchanged c (acting c action)

-- the world after actions, one after the other
abbrev pub run_from : WorldValue → List Action → WorldValue
run_from c [] = c
run_from c (action ∷ actions) = run_from (act c action) actions

abbrev pub run : SettingsValue → List Action → WorldValue
run settings actions = run_from (new_world settings) actions

-- ---- the outcome of an action

-- the reply of a step that is done
abbrev pub reply_of : Step → Option Reply
reply_of (Ok x) = Some x.1
reply_of (Err fault) = None

-- the node's reply, if a node makes a step
abbrev pub reply_to : WorldValue → Action → Option Reply
reply_to c (Start node generation) = None
reply_to c (Local node change) = reply_of (step_of (map.get c.nodes node) (event_of change))
reply_to c (Deliver number to now) = reply_of (step_at c to now (at_place c.sent number))

-- the message that an action sends, if it sends one
abbrev pub message_to : WorldValue → Action → Option Message
message_to c action = option_and_then message_of (reply_to c action)

-- and its number
abbrev pub number_to : WorldValue → Action → Option ℕ
number_to c action = option_map (λ m. length c.sent + 1) (message_to c action)

-- `true` if an action starts a node
abbrev pub starts : ℕ → Action → Bool
starts node (Start other generation) = other == node
starts node (Local other change) = false
starts node (Deliver number to now) = false

-- ---- the same by places

abbrev pub plain_local : ℕ → LocalEvent → PlaceAction
plain_local node Beat = places.Beat node
plain_local node (Set key text) = places.Set node key text
plain_local node (Remove key) = places.Remove node key
plain_local node Opening = places.Opening node
plain_local node (Tick now words) = places.Tick node

-- the action without its time and words
abbrev pub plain_action : Action → PlaceAction
plain_action (Start node generation) = places.Start node generation
plain_action (Local node change) = plain_local node change
plain_action (Deliver number to now) = places.Deliver number to

-- the world of places after actions, of which the refused ones are left out
abbrev pub place_world : List Action → PlaceWorld
place_world actions = world_after (done_from nobody (map_list plain_action actions))
