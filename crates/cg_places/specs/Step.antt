-- One step of a node, by places.
use Rattle.std.specs.Prelude.{◌≡◌, ◌==◌, ⊤, ℕ, true, List, [], ◌∷◌, ◌++◌, Option, Some, None, Ok}
use Rattle.std.specs.Option.{option_map, option_and_then}
use Rattle.cg_types.specs.Text.{ClusterValue}
use Rattle.cg_entry.specs.Values.{EntryValue}
use Rattle.cg_entry.specs.History.{at_place}
use Rattle.cg_entry.specs.Place.{Span}
use Rattle.cg_messages.specs.declared.message.Message.{Message}
use Rattle.cg_messages.specs.declared.message.Message.TheVariants as message
use Rattle.cg_places.specs.Places.{took_for}
use Rattle.cg_places.specs.PlaceMessages.{PlaceMessage, Syn, Ack, Ack2}
use Rattle.cg_places.specs.MessageSpelling.{outcome_about}
use Rattle.cg_places.specs.MessageLaws.{Says}
use Rattle.cg_core.specs.declared.event.Event.{Event}
use Rattle.cg_core.specs.declared.event.Event.TheVariants as event
use Rattle.cg_core.specs.declared.reply.Reply.{Reply}
use Rattle.cg_core.specs.Values.{NodeValue}
use Rattle.cg_core.specs.Replies.{outcomes_in}
pub use Rattle.cg_core.specs.Sending.{message_of}
use Rattle.cg_core.specs.Step.{node_step}
use Rattle.cg_places.specs.PlaceWorld.{PlaceWorld, PlaceAction, Start, Beat, Set, Remove, Opening, Tick, Deliver, runs, after_action}
use Rattle.cg_places.specs.Laws.{IsWorld}
use Rattle.cg_places.specs.Spelling.{SpellsNode, IsChangedAt}

-- the message that an event hands over, if it hands one over
abbrev pub handed_message : Event → Option Message
handed_message event.Beat = None
handed_message (event.Set key text) = None
handed_message (event.Tick now words) = None
handed_message (event.Remove key) = None
handed_message event.Opening = None
handed_message (event.Syn syn) = Some (message.Syn syn)
handed_message (event.Ack now ack) = Some (message.Ack ack)
handed_message (event.Ack2 now ack2) = Some (message.Ack2 ack2)

-- the action by places of a node's event; a message that it hands over is the one of this number
abbrev pub action_at : ℕ → ℕ → Event → PlaceAction
action_at node number event.Beat = Beat node
action_at node number (event.Set key text) = Set node key text
action_at node number (event.Tick now words) = Tick node
action_at node number (event.Remove key) = Remove node key
action_at node number event.Opening = Opening node
action_at node number (event.Syn syn) = Deliver number node
action_at node number (event.Ack now ack) = Deliver number node
action_at node number (event.Ack2 now ack2) = Deliver number node

-- the spans that a message has by places
abbrev pub spans_in : PlaceMessage → ℕ → Option Span
spans_in (Syn places) owner = None
spans_in (Ack asks spans) owner = spans owner
spans_in (Ack2 spans) owner = spans owner

-- the span about an owner that an action hands over, if it hands one over
abbrev pub span_handed : PlaceWorld → PlaceAction → ℕ → Option Span
span_handed w (Start node generation) owner = None
span_handed w (Beat node) owner = None
span_handed w (Set node key text) owner = None
span_handed w (Remove node key) owner = None
span_handed w (Opening node) owner = None
span_handed w (Tick node) owner = None
span_handed w (Deliver number to) owner = option_and_then (λ said. spans_in said owner) (at_place w.sent number)

-- ---- before a step

-- The node runs, and its table spells its places.
pub record IsPlaced (w : PlaceWorld) (node : ℕ) (n : NodeValue) : Type 0 where
  pub runs_here : runs w node ≡ true
  pub own : n.table.own ≡ node
  pub spells : SpellsNode w node n.table.entries

-- The message says the one that was sent under this number.
pub record SaysSent (w : PlaceWorld) (number : ℕ) (m : Message) : Type 0 where
  pub said : PlaceMessage
  pub is_said : at_place w.sent number ≡ Some said
  pub says : Says w.histories m said

-- The message that is handed over, if one is, says the one that was sent under this number.
abbrev pub IsSentBefore : PlaceWorld → ℕ → Option Message → Type 0
IsSentBefore w number None = ⊤
IsSentBefore w number (Some m) = SaysSent w number m

-- ---- after a step

-- A SYN names this cluster.
abbrev pub NamesCluster : ClusterValue → Message → Type 0
NamesCluster cluster (message.Syn syn) = syn.cluster ≡ cluster
NamesCluster cluster (message.Ack ack) = ⊤
NamesCluster cluster (message.Ack2 ack2) = ⊤

-- The message says this one of the histories, and names the cluster.
pub record IsSent (cluster : ClusterValue) (histories : ℕ → List EntryValue) (m : Message) (said : PlaceMessage)
    : Type 0 where
  pub says : Says histories m said
  pub names : NamesCluster cluster m

-- One more message was sent, and the message says it.
pub record SendsOne (cluster : ClusterValue) (w v : PlaceWorld) (m : Message) : Type 0 where
  pub said : PlaceMessage
  pub added : v.sent ≡ w.sent ++ said ∷ []
  pub is_sent : IsSent cluster v.histories m said

-- One more message was sent if the step sends one; else none was.
abbrev pub Sends : ClusterValue → PlaceWorld → PlaceWorld → Option Message → Type 0
Sends cluster w v None = v.sent ≡ w.sent
Sends cluster w v (Some m) = SendsOne cluster w v m

-- The step of a node n, which gives the node and the reply x, is the step of one of its actions by places. That action
-- hands over these spans, if any, and leads to v.
pub record IsStepAt (w v : PlaceWorld) (spans : ℕ → Option Span) (node : ℕ) (n : NodeValue) (x : NodeValue × Reply)
    : Type 0 where
  pub settings : x.0.settings ≡ n.settings
  pub own : x.0.table.own ≡ n.table.own
  -- the table spells the places after the action, which changes those of no other node
  pub changed : IsChangedAt w v node x.0.table.entries
  -- the message that is sent says the one by places
  pub sends : Sends n.settings.cluster w v (message_of x.1)
  -- the outcome that the reply says of a delta is that of the span about its owner, at the node's place before the step
  pub told : (owner : ℕ) → outcome_about owner (outcomes_in x.1)
      ≡ option_map (λ span. record { endpoint = owner; took = took_for (owner == node) (w.places node owner) span })
      (spans owner)
  -- nobody started
  pub owners : v.owners ≡ w.owners

-- Each step of a node is the step by places, if the node's table spells its places and a message that it is handed was
-- sent. Its settings and the number of endpoints may be any.
abbrev pub StepsAreByPlaces : Type 0
StepsAreByPlaces =
    (w : PlaceWorld) (node number : ℕ) (n : NodeValue) (e : Event) (x : NodeValue × Reply)
    → IsWorld w → IsPlaced w node n → IsSentBefore w number (handed_message e) → node_step n e ≡ Ok x
    → IsStepAt w (after_action w (action_at node number e)) (span_handed w (action_at node number e)) node n x
