-- Messages by places, and the answers to them.
use Rattle.std.specs.Prelude.{ℕ, ◌≡◌, ◌==◌, List, Option, Some}
use Rattle.std.specs.Option.{option_and_then}
use Rattle.cg_entry.specs.Values.{EntryValue}
use Rattle.cg_entry.specs.Place.{Span, IsSpan}
pub use Rattle.cg_table.specs.Spelling.{Stand}
use Rattle.cg_places.specs.Places.{Ask, IsAsk, span_for, ask_for, span_asked, place_with}

-- A message by places, each a function of the owner: a SYN gives its sender's places, an ACK asks and sends, and an
-- ACK2 sends.
pub data PlaceMessage : Type 0 where
  Syn : (places : ℕ → ℕ) → PlaceMessage
  Ack : (asks : ℕ → Option Ask) → (spans : ℕ → Option Span) → PlaceMessage
  Ack2 : (spans : ℕ → Option Span) → PlaceMessage

-- the answer of a holder at the places mine to a SYN of the places theirs
abbrev pub answer_at : (ℕ → List EntryValue) → (ℕ → ℕ) → (ℕ → ℕ) → PlaceMessage
answer_at histories mine theirs =
    Ack (λ owner. ask_for (histories owner) (mine owner) (theirs owner))
    (λ owner. span_for (histories owner) (mine owner) (theirs owner))

-- the places of the holder own after spans
abbrev pub places_after : ℕ → (ℕ → ℕ) → (ℕ → Option Span) → ℕ → ℕ
places_after own mine spans owner = place_with (owner == own) (mine owner) (spans owner)

-- the spans that a holder at the places mine sends for asks
abbrev pub grants_at : (ℕ → List EntryValue) → (ℕ → ℕ) → (ℕ → Option Ask) → ℕ → Option Span
grants_at histories mine asks owner = option_and_then (span_asked (histories owner) (mine owner)) (asks owner)

-- Each ask is one of its owner's history.
abbrev pub AreAsks : (ℕ → List EntryValue) → (ℕ → Option Ask) → Type 0
AreAsks histories asks = (owner : ℕ) (ask : Ask) → asks owner ≡ Some ask → IsAsk (histories owner) ask

-- Each span is one of its owner's history.
abbrev pub AreSpans : (ℕ → List EntryValue) → (ℕ → Option Span) → Type 0
AreSpans histories spans = (owner : ℕ) (span : Span) → spans owner ≡ Some span → IsSpan (histories owner) span

-- The message is one of the histories.
abbrev pub IsPlaceMessage : (ℕ → List EntryValue) → PlaceMessage → Type 0
IsPlaceMessage histories (Syn places) = Stand histories places
IsPlaceMessage histories (Ack asks spans) = AreAsks histories asks × AreSpans histories spans
IsPlaceMessage histories (Ack2 spans) = AreSpans histories spans
