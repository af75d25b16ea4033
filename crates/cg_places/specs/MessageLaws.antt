-- The laws of messages on tables and messages that spell places of one family of histories, message by message.
use Rattle.std.specs.Prelude.{◌≡◌, ℕ, ◌≤◌, ◌==◌, true, List, length, Option, Some, Ok}
use Rattle.std.specs.Option.{option_map}
use Rattle.cg_types.specs.Text.{ClusterValue}
use Rattle.cg_entry.specs.Values.{EntryValue}
use Rattle.cg_entry.specs.History.{IsHistory}
use Rattle.cg_entry.specs.Place.{Span, IsSpan}
use Rattle.cg_table.specs.Values.{TableValue}
use Rattle.cg_table.specs.Spelling.{SpellsPlaces}
use Rattle.cg_messages.specs.declared.message.Message.{Message}
use Rattle.cg_messages.specs.declared.message.Message.TheVariants as kinds
use Rattle.cg_messages.specs.declared.outcome.Outcome.{Outcome}
use Rattle.cg_messages.specs.Values.{SynValue, AckValue, Ack2Value}
use Rattle.cg_exchange.specs.Answering.{same_cluster, syn_of, answer_to_syn}
use Rattle.cg_exchange.specs.Taking.{taking_ack, taking_ack2}
use Rattle.cg_places.specs.Places.{Ask, IsAsk, span_for, ask_for, span_asked, took_for}
use Rattle.cg_places.specs.MessageSpelling.{SpellsMessage, outcome_about}
use Rattle.cg_places.specs.PlaceMessages.{PlaceMessage, IsPlaceMessage, Syn, Ack, Ack2, answer_at, places_after, grants_at}

-- The spans and asks that the rules give at the place mine lie in the history.
pub record RulesGiveSpans (history : List EntryValue) (mine : ℕ) : Type 0 where
  pub spans : (theirs : ℕ) (span : Span) → span_for history mine theirs ≡ Some span → IsSpan history span
  pub asks : (theirs : ℕ) (ask : Ask) → ask_for history mine theirs ≡ Some ask → IsAsk history ask
  pub granted : (ask : Ask) → IsAsk history ask → (span : Span) → span_asked history mine ask ≡ Some span
      → IsSpan history span

-- At each place of a history the rules give spans and asks of that history.
abbrev pub RulesStand : Type 0
RulesStand = (history : List EntryValue) (mine : ℕ) → mine ≤ length history → RulesGiveSpans history mine

-- The message spells this one by places, which is one of the histories.
pub record Says (histories : ℕ → List EntryValue) (message : Message) (said : PlaceMessage) : Type 0 where
  pub spells : SpellsMessage histories said message
  pub stands : IsPlaceMessage histories said

-- The table after spans at the table t with the places mine, and the outcome of each span.
pub record IsMoved (histories : ℕ → List EntryValue) (t : TableValue) (mine : ℕ → ℕ) (spans : ℕ → Option Span)
    (after : TableValue) (outcomes : List Outcome) : Type 0 where
  pub own : after.own ≡ t.own
  pub places : SpellsPlaces histories after.entries (places_after t.own mine spans)
  pub outcomes_about : (owner : ℕ)
      → let took = took_for (owner == t.own) (mine owner) in
      outcome_about owner outcomes ≡ option_map (λ span. record { endpoint = owner; took = took span }) (spans owner)

-- The SYN of a table gives the places of the table.
abbrev pub SynSaysPlaces : Type 0
SynSaysPlaces =
    (histories : ℕ → List EntryValue) (t : TableValue) (cluster : ClusterValue) (places : ℕ → ℕ)
    → SpellsPlaces histories t.entries places → Says histories (kinds.Syn (syn_of t cluster)) (Syn places)

-- The answer to a SYN is an ACK that gives the asks and the spans that are sent.
pub record IsAnswered (histories : ℕ → List EntryValue) (t : TableValue) (cluster : ClusterValue) (syn : SynValue)
    (mine theirs : ℕ → ℕ) : Type 0 where
  pub ack : AckValue
  pub answer : answer_to_syn t cluster syn ≡ Ok ack
  pub says : Says histories (kinds.Ack ack) (answer_at histories mine theirs)

-- Within a cluster each SYN is answered, place by place.
abbrev pub SynIsAnswered : Type 0
SynIsAnswered =
    (histories : ℕ → List EntryValue) → ((owner : ℕ) → IsHistory (histories owner))
    → (t : TableValue) (cluster : ClusterValue) (syn : SynValue) (mine theirs : ℕ → ℕ)
    → SpellsPlaces histories t.entries mine → Says histories (kinds.Syn syn) (Syn theirs)
    → same_cluster cluster syn.cluster ≡ true → IsAnswered histories t cluster syn mine theirs

-- The table that an ACK leaves, and the spans sent for its asks at the places after it.
pub record AckMoves (histories : ℕ → List EntryValue) (t : TableValue) (mine : ℕ → ℕ)
    (asks : ℕ → Option Ask) (spans : ℕ → Option Span) (after : TableValue) (ack2 : Ack2Value) (outcomes : List Outcome)
    : Type 0 where
  pub moved : IsMoved histories t mine spans after outcomes
  pub says : Says histories (kinds.Ack2 ack2) (Ack2 (grants_at histories (places_after t.own mine spans) asks))

-- An ACK that is taken moves the holder as its spans do, and is granted its asks.
abbrev pub AckIsTaken : Type 0
AckIsTaken =
    (histories : ℕ → List EntryValue) → ((owner : ℕ) → IsHistory (histories owner))
    → (t : TableValue) (ack : AckValue) (mine : ℕ → ℕ) (asks : ℕ → Option Ask) (spans : ℕ → Option Span)
    → SpellsPlaces histories t.entries mine → Says histories (kinds.Ack ack) (Ack asks spans)
    → (after : TableValue) (ack2 : Ack2Value) (outcomes : List Outcome)
    → taking_ack t ack ≡ Ok (after, ack2, outcomes) → AckMoves histories t mine asks spans after ack2 outcomes

-- An ACK2 that is taken moves the holder as its spans do.
abbrev pub Ack2IsTaken : Type 0
Ack2IsTaken =
    (histories : ℕ → List EntryValue) → ((owner : ℕ) → IsHistory (histories owner))
    → (t : TableValue) (ack2 : Ack2Value) (mine : ℕ → ℕ) (spans : ℕ → Option Span)
    → SpellsPlaces histories t.entries mine → Says histories (kinds.Ack2 ack2) (Ack2 spans)
    → (after : TableValue) (outcomes : List Outcome) → taking_ack2 t ack2 ≡ Ok (after, outcomes)
    → IsMoved histories t mine spans after outcomes
