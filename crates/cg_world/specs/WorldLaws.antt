-- Laws of the nodes of a cluster as they run, after every list of actions. The list may have refused actions: they
-- change nothing.
use Rattle.std.specs.Prelude.{ℕ, ◌≡◌, ◌⊎◌, Result, Ok, Err, IsOk, true, is_some, ⊤, List, [], ◌∷◌, ◌++◌, length, Some}
use Rattle.std.specs.Option.{option_and_then, option_to_list}
use Rattle.std.specs.FinMap as map
use Rattle.cg_types.specs.Answer.{fault_of}
use Rattle.cg_types.specs.declared.fault.Fault.{Fault}
use Rattle.cg_types.specs.declared.fault.Fault.TheVariants.{NoSuchMessage, NoSuchNode}
use Rattle.cg_types.specs.Text.{ClusterValue}
use Rattle.cg_entry.specs.Values.{EntryValue}
use Rattle.cg_entry.specs.History.{at_place}
use Rattle.cg_table.specs.Table.{digests_of}
use Rattle.cg_table.specs.Merge.{merge_of}
use Rattle.cg_messages.specs.declared.message.Message.{Message}
use Rattle.cg_places.specs.PlaceMessages.{PlaceMessage}
use Rattle.cg_places.specs.Step.{IsSent}
use Rattle.cg_core.specs.SettingsValues.{SettingsValue}
use Rattle.cg_core.specs.Values.{NodeValue}
use Rattle.cg_places.specs.PlaceWorld.{PlaceWorld}
use Rattle.cg_places.specs.Join.{sources, SamePlaces}
use Rattle.cg_places.specs.Refusals.{refusal}
use Rattle.cg_places.specs.Spelling.{SpellsNodes}
use Rattle.cg_places.specs.TableLaws.{IsJoined, IsMergedOf}
use Rattle.cg_world.specs.World.{Action, Local, Beat, Opening, Tick, Deliver, WorldValue, new_world, tables_of, message_to, number_to, acting, act, run, plain_action, place_world}
use Rattle.cg_world.specs.Terms.{Runs, WasOwn, AreEqual}

-- One more action is done after all others.
abbrev pub ActionsOneByOne : Type 0
ActionsOneByOne =
    (settings : SettingsValue) (actions : List Action) (action : Action)
    → run settings (actions ++ action ∷ []) ≡ act (run settings actions) action

-- The message that an action sends, and its number.
pub record SendsAtNumber (c : WorldValue) (action : Action) : Type 0 where
  -- the message that the action sends, if any, is added at the end, and nothing else is
  pub sent : (act c action).sent ≡ c.sent ++ option_to_list (message_to c action)
  -- it is at its number
  pub numbered : option_and_then (at_place (act c action).sent) (number_to c action) ≡ message_to c action

abbrev pub MessagesAreNumbered : Type 0
MessagesAreNumbered = (c : WorldValue) (action : Action) → SendsAtNumber c action

-- The results of a beat and of a tick in one world: the tick is refused if the beat is, by the same fault; if the beat
-- is done, the tick is the opening after the beat.
pub record IsBeatAndOpening (node : ℕ) (beat tick : Result WorldValue Fault) : Type 0 where
  pub refused : fault_of tick ≡ fault_of beat
  pub done : (d : WorldValue) → beat ≡ Ok d → tick ≡ acting d (Local node Opening)

-- A tick is a beat and then an opening, at any time and with any words.
abbrev pub TicksAreBeatsAndOpenings : Type 0
TicksAreBeatsAndOpenings =
    (c : WorldValue) (node now : ℕ) (words : List ℕ)
    → IsBeatAndOpening node (acting c (Local node Beat)) (acting c (Local node (Tick now words)))

-- The world is one to which some actions lead.
pub record IsReached (c : WorldValue) : Type 0 where
  pub actions : List Action
  pub is : c ≡ run c.settings actions

pub record ReachedWorlds : Type 0 where
  pub begin : (settings : SettingsValue) → IsReached (new_world settings)
  pub go_on : (c : WorldValue) (action : Action) → IsReached c → IsReached (act c action)

-- ---- tables and messages, by places

-- Each message says the one by places of the same number, and there are as many of both.
abbrev pub AllSent : ClusterValue → (ℕ → List EntryValue) → List Message → List PlaceMessage → Type 0
AllSent cluster histories [] [] = ⊤
AllSent cluster histories [] (said ∷ more) = ⊥
AllSent cluster histories (m ∷ ms) [] = ⊥
AllSent cluster histories (m ∷ ms) (said ∷ more) = IsSent cluster histories m said × AllSent cluster histories ms more

-- The node has the settings of all, and this endpoint.
pub record IsNodeAt (settings : SettingsValue) (node : ℕ) (n : NodeValue) : Type 0 where
  pub its_settings : n.settings ≡ settings
  pub its_endpoint : n.table.own ≡ node

-- The nodes hold and have sent what the places say.
pub record SpellsWorld (c : WorldValue) (w : PlaceWorld) : Type 0 where
  -- the same nodes run, and each table spells its node's places
  pub tables : SpellsNodes (tables_of c) w
  pub messages : AllSent c.settings.cluster w.histories c.sent w.sent
  pub each : (node : ℕ) (n : NodeValue) → map.get c.nodes node ≡ Some n → IsNodeAt c.settings node n
  -- a node runs for each owner that has started
  pub as_many : map.len c.nodes ≡ length w.owners

-- The nodes that run spell the places of the actions, of which the refused ones are left out.
abbrev pub NodesSpellPlaces : Type 0
NodesSpellPlaces =
    (settings : SettingsValue) (actions : List Action) → SpellsWorld (run settings actions) (place_world actions)

-- The nodes refuse what the places refuse.
abbrev pub RefusalsAgree : Type 0
RefusalsAgree =
    (settings : SettingsValue) (actions : List Action) (action : Action)
    → fault_of (acting (run settings actions) action) ≡ refusal (place_world actions) (plain_action action)

-- A delivery is refused only if there is no such message or no such node, and never for want of room or for another
-- cluster.
abbrev pub DeliveriesFindRoom : Type 0
DeliveriesFindRoom =
    (settings : SettingsValue) (actions : List Action) (number to now : ℕ) (fault : Fault)
    → acting (run settings actions) (Deliver number to now) ≡ Err fault → (fault ≡ NoSuchMessage) ⊎ (fault ≡ NoSuchNode)

-- A delivery is done if its message was sent and the node that it is handed to runs.
abbrev pub DeliveriesAreDone : Type 0
DeliveriesAreDone =
    (settings : SettingsValue) (actions : List Action) (number to now : ℕ)
    → is_some (at_place (run settings actions).sent number) ≡ true
    → is_some (map.get (run settings actions).nodes to) ≡ true
    → IsOk (acting (run settings actions) (Deliver number to now))

-- ---- the tables of nodes

-- Each node's table is the join of its own newest entry and of the entries to which the deltas led that it took since
-- its start.
abbrev pub TablesAreTheJoin : Type 0
TablesAreTheJoin =
    (settings : SettingsValue) (actions : List Action) (node : ℕ) (n : NodeValue)
    → Runs (run settings actions) node n → IsJoined (place_world actions) node n.table.entries

-- Each entry that a node holds was its owner's own, whole, at one past time.
abbrev pub EntriesAreWhole : Type 0
EntriesAreWhole =
    (settings : SettingsValue) (actions : List Action) (node : ℕ) (n : NodeValue)
    → Runs (run settings actions) node n → (owner : ℕ) (entry : EntryValue) → map.get n.table.entries owner ≡ Some entry
    → WasOwn (new_world settings) actions owner entry

-- Nodes that took the same have equal tables and rings, in any order and number of deliveries.
abbrev pub EqualSetsGiveEqualTables : Type 0
EqualSetsGiveEqualTables =
    (settings : SettingsValue) (actions : List Action) (a b : ℕ) (one other : NodeValue)
    → Runs (run settings actions) a one → Runs (run settings actions) b other
    → ((owner : ℕ) → SamePlaces (sources (place_world actions) a owner) (sources (place_world actions) b owner))
    → AreEqual one.table.entries other.table.entries

-- Nodes with equal digests have equal tables and rings.
abbrev pub EqualDigestsGiveEqualTables : Type 0
EqualDigestsGiveEqualTables =
    (settings : SettingsValue) (actions : List Action) (a b : ℕ) (one other : NodeValue)
    → Runs (run settings actions) a one → Runs (run settings actions) b other
    → digests_of one.table.entries ≡ digests_of other.table.entries → AreEqual one.table.entries other.table.entries

-- The merged tables of three nodes are the join of their places.
abbrev pub MergesOfNodesAreTheJoin : Type 0
MergesOfNodesAreTheJoin =
    (settings : SettingsValue) (actions : List Action) (a b c : ℕ) (one two three : NodeValue)
    → Runs (run settings actions) a one → Runs (run settings actions) b two → Runs (run settings actions) c three
    → IsMergedOf (place_world actions) a b c
    (merge_of (merge_of one.table.entries two.table.entries) three.table.entries)
