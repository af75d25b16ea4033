-- Runs worked by hand, by places.
use Rattle.std.specs.Prelude.{ℕ, ◌≡◌, List, [], ◌∷◌, ◌++◌, length, codes, Some}
use Rattle.cg_types.specs.declared.fault.Fault.TheVariants.{NotRising, NoSuchMessage, NoSuchNode}
use Rattle.cg_entry.specs.Place.{Span}
use Rattle.cg_places.specs.PlaceWorld.{PlaceAction, Start, Beat, Set, Opening, Tick, Deliver, world_after}
use Rattle.cg_places.specs.Refusals.{refusal}

-- two nodes, and a whole exchange: messages 1, 2 and 3 are its SYN, ACK and ACK2
abbrev pub first_exchange : List PlaceAction
first_exchange = Start 1 9 ∷ Start 2 5 ∷ Opening 1 ∷ Deliver 1 2 ∷ Deliver 2 1 ∷ Deliver 3 2 ∷ []

-- Node 2 takes the entry of node 1, that one goes on, and node 2 starts anew before the rest reaches it.
abbrev pub stale_delta : List PlaceAction
stale_delta =
    Start 1 9 ∷ Set 1 1 (codes "NORMAL") ∷ Start 2 5 ∷ Opening 1 ∷ Deliver 1 2 ∷ Deliver 2 1 ∷ Deliver 3 2
    ∷ Beat 1 ∷ Opening 2 ∷ Deliver 4 1 ∷ Start 2 6 ∷ Deliver 5 2 ∷ []

-- two old messages, and the first of them once more
abbrev pub rebuilding : List PlaceAction
rebuilding = Deliver 3 2 ∷ Deliver 5 2 ∷ Deliver 3 2 ∷ []

abbrev span : ℕ → ℕ → Span
span from to = record { from = from; to = to }

pub record WorkedPlaces : Type 0 where
  -- after an exchange each holds the other's entry
  pub opener : (world_after first_exchange).places 1 2 ≡ 1
  pub answerer : (world_after first_exchange).places 2 1 ≡ 1
  pub three_messages : length (world_after first_exchange).sent ≡ 3
  -- the delta that reaches node 2 after its second start is a gap: it holds itself alone
  pub gap : (world_after stale_delta).places 2 1 ≡ 0
  pub itself : (world_after stale_delta).places 2 2 ≡ 2
  pub nothing_taken : (world_after stale_delta).taken 2 1 ≡ []
  -- the two old messages rebuild the entry of node 1; the first of them, once more, is old
  pub rebuilt : (world_after (stale_delta ++ rebuilding)).places 2 1 ≡ 3
  pub taken : (world_after (stale_delta ++ rebuilding)).taken 2 1 ≡ span 0 2 ∷ span 2 3 ∷ span 0 2 ∷ []
  pub messages : length (world_after (stale_delta ++ rebuilding)).sent ≡ 7
  -- a start that does not rise, a message that was never sent, and a node that does not run
  pub not_rising : refusal (world_after (stale_delta ++ rebuilding)) (Start 2 6) ≡ Some NotRising
  pub no_message : refusal (world_after (stale_delta ++ rebuilding)) (Deliver 99 2) ≡ Some NoSuchMessage
  pub no_node : refusal (world_after (stale_delta ++ rebuilding)) (Deliver 1 3) ≡ Some NoSuchNode
  -- these change nothing, were they in the list
  pub nothing_held : (world_after (first_exchange ++ Start 2 5 ∷ Deliver 99 2 ∷ Deliver 3 3 ∷ [])).places 3 1 ≡ 0
  pub nothing_sent : length (world_after (first_exchange ++ Deliver 1 3 ∷ Opening 3 ∷ Tick 3 ∷ [])).sent ≡ 3
  pub nothing_started : (world_after (first_exchange ++ Start 2 5 ∷ [])).places 2 1 ≡ 1
