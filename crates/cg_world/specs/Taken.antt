-- Deltas that a node took, by the outcomes in its replies.
use Rattle.std.specs.Prelude.{ℕ, ◌≡◌, ◌≢◌, ◌==◌, IsOk, Err, List, [], ◌∷◌, ◌++◌, Option, Some, None}
use Rattle.std.specs.Option.{option_map}
use Rattle.cg_types.specs.declared.fault.Fault.{Fault}
use Rattle.cg_types.specs.Rising.{Rises}
use Rattle.cg_entry.specs.History.{at_place}
use Rattle.cg_entry.specs.Place.{Span}
use Rattle.cg_messages.specs.declared.message.Message.{Message}
use Rattle.cg_messages.specs.declared.outcome.Outcome.{Outcome}
use Rattle.cg_messages.specs.Members.{endpoints_of_deltas, endpoints_of_outcomes}
use Rattle.cg_places.specs.Places.{took_for}
use Rattle.cg_places.specs.PlaceMessages.{PlaceMessage}
use Rattle.cg_places.specs.MessageSpelling.{SpellsSpans, outcome_about}
use Rattle.cg_core.specs.declared.reply.Reply.{Reply}
use Rattle.cg_core.specs.Replies.{outcomes_in}
use Rattle.cg_core.specs.SettingsValues.{SettingsValue}
pub use Rattle.cg_places.specs.Step.{spans_in}
use Rattle.cg_places.specs.PlaceWorld.{PlaceWorld, unless_gap}
use Rattle.cg_world.specs.World.{Action, Start, Local, Deliver, WorldValue, reply_to, acting, run, place_world}
use Rattle.cg_world.specs.Terms.{deltas_in}

-- the taken spans of an owner, with one more if its outcome is Taken, Old or Own
abbrev pub with_outcome : List Span → Option Outcome → Option Span → List Span
with_outcome spans (Some outcome) (Some span) = unless_gap outcome.took spans span
with_outcome spans (Some outcome) None = spans
with_outcome spans None span = spans

-- The outcomes of a delivery to a node are those of its spans at the places of w. They say what the node took, as v has
-- it.
pub record AreCounted (c : WorldValue) (w v : PlaceWorld) (number node : ℕ) (outcomes : List Outcome) : Type 0 where
  -- the message, and what it says by places: its deltas spell these spans, owner by owner
  pub message : Message
  pub is_message : at_place c.sent number ≡ Some message
  pub said : PlaceMessage
  pub is_said : at_place w.sent number ≡ Some said
  pub spelled : SpellsSpans w.histories (deltas_in message) (spans_in said)
  -- one outcome for each of its deltas, in their order; no two are about one owner
  pub in_order : endpoints_of_outcomes outcomes ≡ endpoints_of_deltas (deltas_in message)
  pub rise : Rises (endpoints_of_outcomes outcomes)
  -- about each owner the outcome of the span about it
  pub each : (owner : ℕ)
      → outcome_about owner outcomes
      ≡ option_map (λ span. record { endpoint = owner; took = took_for (owner == node) (w.places node owner) span })
      (spans_in said owner)
  -- the spans that the node took since its start are now one more about each owner whose outcome is no gap
  pub taken : (owner : ℕ)
      → v.taken node owner ≡ with_outcome (w.taken node owner) (outcome_about owner outcomes) (spans_in said owner)

-- the node whose taken spans an action may change
abbrev pub taker : Action → Option ℕ
taker (Start node generation) = Some node
taker (Local node change) = None
taker (Deliver number to now) = Some to

-- The change that one more action makes to what the nodes took.
pub record IsTold (settings : SettingsValue) (actions : List Action) : Type 0 where
  -- a delivery that is done adds what the outcomes in the node's reply report
  pub deliveries : (number to now : ℕ) (answer : Reply)
      → reply_to (run settings actions) (Deliver number to now) ≡ Some answer
      → AreCounted (run settings actions) (place_world actions)
      (place_world (actions ++ Deliver number to now ∷ [])) number to
      (outcomes_in answer)
  -- a start that is done forgets all that its node took
  pub starts : (node generation owner : ℕ) → IsOk (acting (run settings actions) (Start node generation))
      → (place_world (actions ++ Start node generation ∷ [])).taken node owner ≡ []
  -- the other nodes keep what they took, and all nodes do if a node does something by itself
  pub others : (action : Action) (node owner : ℕ) → taker action ≢ Some node
      → (place_world (actions ++ action ∷ [])).taken node owner ≡ (place_world actions).taken node owner
  -- a refused action changes nothing
  pub refused : (action : Action) (fault : Fault) → acting (run settings actions) action ≡ Err fault
      → place_world (actions ++ action ∷ []) ≡ place_world actions

-- The spans that a node took since its start are those that the outcomes in its replies report.
abbrev pub OutcomesTellWhatIsTaken : Type 0
OutcomesTellWhatIsTaken = (settings : SettingsValue) (actions : List Action) → IsTold settings actions
