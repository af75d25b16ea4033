-- Properties of the places of all nodes, after every list of actions.
use Rattle.std.specs.Prelude.{◌<◌, ℕ, ◌≡◌, ◌≤◌, ◌↔◌, true, nat_eq, List, ◌++◌, length, Some}
use Rattle.std.specs.List.{Contains, IsDistinct}
use Rattle.cg_types.specs.declared.limits.TheConstants.{MEMBER_LIMIT, NUMBER_LIMIT}
use Rattle.cg_entry.specs.Values.{EntryValue}
use Rattle.cg_entry.specs.Entry.{newest}
use Rattle.cg_entry.specs.History.{IsHistory, at_place}
use Rattle.cg_places.specs.PlaceMessages.{PlaceMessage, Stand, IsPlaceMessage}
use Rattle.cg_places.specs.PlaceWorld.{nobody, PlaceAction, PlaceWorld, runs, world_after}
use Rattle.cg_places.specs.Join.{join, Within, furthest, sources, SamePlaces}
use Rattle.cg_places.specs.Exchange.{PlaceExchange, prompt_place_exchange, by_places, at_syn, after_exchange, actions_of, NoStartsOfEither}
use Rattle.cg_places.specs.Refusals.{AreDone, done_exchange}

-- Histories, places and messages fit together.
pub record IsWorld (w : PlaceWorld) : Type 0 where
  -- each owner's entries are a history
  pub histories : (owner : ℕ) → IsHistory (w.histories owner)
  -- each place is in its owner's history
  pub places : (node : ℕ) → Stand w.histories (w.places node)
  -- a node's place of its own entry is the newest
  pub own : (node : ℕ) → w.places node node ≡ length (w.histories node)
  -- each message is one of these histories
  pub messages : (number : ℕ) (message : PlaceMessage) → at_place w.sent number ≡ Some message
      → IsPlaceMessage w.histories message
  -- the owners are the nodes that run, each once
  pub owners : (owner : ℕ) → Contains w.owners owner ↔ (runs w owner ≡ true)
  pub once : IsDistinct nat_eq w.owners

abbrev pub ActionsMakeWorlds : Type 0
ActionsMakeWorlds = (actions : List PlaceAction) → IsWorld (world_after actions)

-- A node's places are the join of its own newest place and of the targets of what it took since its start.
abbrev pub PlacesAreJoins : Type 0
PlacesAreJoins =
    (actions : List PlaceAction) (node owner : ℕ)
    → (world_after actions).places node owner ≡ furthest (sources (world_after actions) node owner)

-- Nodes with the same sources have the same places, whatever the order and number of deliveries.
abbrev pub EqualSourcesEqualPlaces : Type 0
EqualSourcesEqualPlaces =
    (actions : List PlaceAction) (a b owner : ℕ)
    → SamePlaces (sources (world_after actions) a owner) (sources (world_after actions) b owner)
    → (world_after actions).places a owner ≡ (world_after actions).places b owner

-- The later history has the entries of the earlier one at their places, and maybe more.
pub record Continues (earlier later : List EntryValue) : Type 0 where
  pub longer : length earlier ≤ length later
  pub same : (place : ℕ) → place ≤ length earlier → at_place later place ≡ at_place earlier place

-- Each entry of a history stays at its place, after any action.
abbrev pub HistoriesContinue : Type 0
HistoriesContinue =
    (actions more : List PlaceAction) (owner : ℕ)
    → Continues ((world_after actions).histories owner) ((world_after (actions ++ more)).histories owner)

-- ---- the join

-- The join of three is the least that is at or past all three, in any grouping and order.
pub record IsLeastJoin (a b c : ℕ → ℕ) : Type 0 where
  pub first : Within a (join (join a b) c)
  pub second : Within b (join (join a b) c)
  pub third : Within c (join (join a b) c)
  pub least : (places : ℕ → ℕ) → Within a places → Within b places → Within c places → Within (join (join a b) c) places
  pub grouping : (owner : ℕ) → join (join a b) c owner ≡ join a (join b c) owner
  pub order : (owner : ℕ) → join a b owner ≡ join b a owner
  pub itself : (owner : ℕ) → join a a owner ≡ a owner

abbrev pub JoinsAreLeast : Type 0
JoinsAreLeast = (a b c : ℕ → ℕ) → IsLeastJoin a b c

-- ---- exchanges

-- the join of the places of the opener when it opened and of the answerer when it answered
abbrev pub exchange_join : PlaceWorld → PlaceExchange → ℕ → ℕ
exchange_join w x = join ((at_syn by_places w x).places x.answerer) (w.places x.opener)

-- both nodes run
pub record BothRun (w : PlaceWorld) (x : PlaceExchange) : Type 0 where
  pub opener : runs w x.opener ≡ true
  pub answerer : runs w x.answerer ≡ true

-- Both nodes end at that join, or past it.
pub record ReachesTheJoin (w : PlaceWorld) (x : PlaceExchange) : Type 0 where
  pub opener : Within (exchange_join w x) ((after_exchange by_places w x).places x.opener)
  pub answerer : Within (exchange_join w x) ((after_exchange by_places w x).places x.answerer)

-- An exchange takes both of its nodes to the join, after any actions between its messages except a start of the two.
abbrev pub ExchangesReachTheJoin : Type 0
ExchangesReachTheJoin =
    (actions : List PlaceAction) (x : PlaceExchange) → BothRun (world_after actions) x → NoStartsOfEither x
    → ReachesTheJoin (world_after actions) x

-- Both nodes end at the join of what they held.
pub record EndsAtTheJoin (w : PlaceWorld) (opener answerer : ℕ) : Type 0 where
  pub opened : (owner : ℕ)
      → (after_exchange by_places w (prompt_place_exchange opener answerer)).places opener owner
      ≡ join (w.places answerer) (w.places opener) owner
  pub answered : (owner : ℕ)
      → (after_exchange by_places w (prompt_place_exchange opener answerer)).places answerer owner
      ≡ join (w.places answerer) (w.places opener) owner

-- An exchange with nothing between its messages leaves both nodes with the same places.
abbrev pub UndisturbedExchangesEqual : Type 0
UndisturbedExchangesEqual =
    (actions : List PlaceAction) (opener answerer : ℕ)
    → BothRun (world_after actions) (prompt_place_exchange opener answerer)
    → EndsAtTheJoin (world_after actions) opener answerer

-- An exchange is the list of its actions.
abbrev pub PlaceExchangesAreLists : Type 0
PlaceExchangesAreLists =
    (actions : List PlaceAction) (x : PlaceExchange)
    → world_after (actions ++ actions_of by_places (world_after actions) x)
    ≡ after_exchange by_places (world_after actions) x

-- The done part of an exchange starts neither node, and none of its actions is refused.
pub record IsDoneExchange (w : PlaceWorld) (x : PlaceExchange) : Type 0 where
  pub neither : NoStartsOfEither (done_exchange w x)
  pub done : AreDone w (actions_of by_places w (done_exchange w x))

-- An exchange is done if the refused actions are left out.
abbrev pub ExchangesAreDone : Type 0
ExchangesAreDone =
    (actions : List PlaceAction) (x : PlaceExchange) → BothRun (world_after actions) x → NoStartsOfEither x
    → IsDoneExchange (world_after actions) x

-- ---- limits

-- Owners are few, and versions below their limit.
pub record IsWithinLimits (w : PlaceWorld) : Type 0 where
  pub owners : length w.owners ≤ MEMBER_LIMIT
  pub versions : (owner place : ℕ) (entry : EntryValue) → at_place (w.histories owner) place ≡ Some entry
      → newest entry < NUMBER_LIMIT

-- The limits hold if none of the actions was refused.
abbrev pub DoneActionsKeepLimits : Type 0
DoneActionsKeepLimits = (actions : List PlaceAction) → AreDone nobody actions → IsWithinLimits (world_after actions)
