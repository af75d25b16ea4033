-- Places, asks and spans, spelled by messages, owner by owner.
use Rattle.std.specs.Prelude.{◌≡◌, ℕ, ◌==◌, List, find, Option}
use Rattle.cg_types.specs.Rising.{Rises}
use Rattle.std.specs.Option.{option_map, option_and_then}
use Rattle.cg_entry.specs.Values.{EntryValue}
use Rattle.cg_entry.specs.History.{at_place}
use Rattle.cg_entry.specs.Place.{Span}
use Rattle.cg_entry.specs.Spelling.{version_at, delta_of}
use Rattle.cg_entry.specs.declared.digest.Digest.{Digest}
use Rattle.cg_table.specs.Table.{digest_of}
use Rattle.cg_messages.specs.declared.owner_delta.OwnerDelta.{OwnerDelta}
use Rattle.cg_messages.specs.declared.message.Message.{Message}
use Rattle.cg_messages.specs.declared.message.Message.TheVariants as kinds
use Rattle.cg_messages.specs.declared.outcome.Outcome.{Outcome}
use Rattle.cg_messages.specs.Values.{RequestValue, SynValue, AckValue, Ack2Value}
pub use Rattle.cg_messages.specs.Members.{digest_about}
use Rattle.cg_messages.specs.Members.{about, endpoints_of_digests, endpoints_of_requests, endpoints_of_deltas}
use Rattle.cg_places.specs.Places.{Ask}
use Rattle.cg_places.specs.PlaceMessages.{PlaceMessage, Syn, Ack, Ack2}

-- the member of a list about an owner
abbrev pub request_about : ℕ → List RequestValue → Option RequestValue
request_about owner requests = find (λ r. r.endpoint == owner) requests

abbrev pub delta_about : ℕ → List OwnerDelta → Option OwnerDelta
delta_about owner deltas = find (λ d. d.endpoint == owner) deltas

abbrev pub outcome_about : ℕ → List Outcome → Option Outcome
outcome_about owner outcomes = find (λ o. o.endpoint == owner) outcomes

-- the request that spells an ask: its generation, and the version at its place
abbrev pub request_of : ℕ → List EntryValue → Ask → RequestValue
request_of owner history ask =
    record { endpoint = owner; generation = ask.generation; version = version_at history ask.from }

-- Owner by owner, the digest is that of the entry at the place.
pub record SpellsDigests (histories : ℕ → List EntryValue) (digests : List Digest) (places : ℕ → ℕ) : Type 0 where
  pub at : (owner : ℕ) → digest_about owner digests
      ≡ option_map (λ e. digest_of (owner, e)) (at_place (histories owner) (places owner))

-- Owner by owner, the request spells the ask.
pub record SpellsAsks (histories : ℕ → List EntryValue) (requests : List RequestValue)
    (asks : ℕ → Option Ask) : Type 0 where
  pub at : (owner : ℕ) → request_about owner requests ≡ option_map (request_of owner (histories owner)) (asks owner)

-- Owner by owner, the delta spells the span.
pub record SpellsSpans (histories : ℕ → List EntryValue) (deltas : List OwnerDelta)
    (spans : ℕ → Option Span) : Type 0 where
  pub at : (owner : ℕ) → delta_about owner deltas
      ≡ option_map (about owner) (option_and_then (delta_of (histories owner)) (spans owner))

-- The SYN has one digest an owner, and spells the places.
pub record SpellsSyn (histories : ℕ → List EntryValue) (places : ℕ → ℕ) (syn : SynValue) : Type 0 where
  pub rise : Rises (endpoints_of_digests syn.digests)
  pub digests : SpellsDigests histories syn.digests places

-- The ACK has one request and one delta an owner, and spells the asks and the spans.
pub record SpellsAck (histories : ℕ → List EntryValue) (asks : ℕ → Option Ask) (spans : ℕ → Option Span)
    (ack : AckValue) : Type 0 where
  pub requests_rise : Rises (endpoints_of_requests ack.requests)
  pub deltas_rise : Rises (endpoints_of_deltas ack.deltas)
  pub requests : SpellsAsks histories ack.requests asks
  pub deltas : SpellsSpans histories ack.deltas spans

-- The ACK2 has one delta an owner, and spells the spans.
pub record SpellsAck2 (histories : ℕ → List EntryValue) (spans : ℕ → Option Span) (ack2 : Ack2Value) : Type 0 where
  pub rise : Rises (endpoints_of_deltas ack2.deltas)
  pub deltas : SpellsSpans histories ack2.deltas spans

-- The message is of the same kind as the one by places, and spells it.
abbrev pub SpellsMessage : (ℕ → List EntryValue) → PlaceMessage → Message → Type 0
SpellsMessage histories (Syn places) (kinds.Syn syn) = SpellsSyn histories places syn
SpellsMessage histories (Syn places) (kinds.Ack ack) = ⊥
SpellsMessage histories (Syn places) (kinds.Ack2 ack2) = ⊥
SpellsMessage histories (Ack asks spans) (kinds.Syn syn) = ⊥
SpellsMessage histories (Ack asks spans) (kinds.Ack ack) = SpellsAck histories asks spans ack
SpellsMessage histories (Ack asks spans) (kinds.Ack2 ack2) = ⊥
SpellsMessage histories (Ack2 spans) (kinds.Syn syn) = ⊥
SpellsMessage histories (Ack2 spans) (kinds.Ack ack) = ⊥
SpellsMessage histories (Ack2 spans) (kinds.Ack2 ack2) = SpellsAck2 histories spans ack2
