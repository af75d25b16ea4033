-- Outcomes of spans at a table, by places in owners' histories.
use Rattle.std.specs.Prelude.{ℕ, Bool, Option, Some, None, if◌then◌else◌}
use Rattle.cg_entry.specs.Place.{Span, SpanOutcome, span_outcome, place_after}
use Rattle.cg_entry.specs.Place as place
use Rattle.cg_entry.specs.declared.took.Took.{Took}
use Rattle.cg_entry.specs.declared.took.Took.TheVariants as took

-- the outcome of a span, as that of a delta
abbrev pub took_of_span : SpanOutcome → Took
took_of_span place.Taken = took.Taken
took_of_span place.Old = took.Old
took_of_span place.Gap = took.Gap

-- the outcome of a span about an owner, which may be the holder itself
abbrev pub took_for : Bool → ℕ → Span → Took
took_for own place span = if own then took.Own else took_of_span (span_outcome place span)

-- the place of a holder after a span about an owner, if it got one; no span about the holder itself moves it
abbrev pub place_with : Bool → ℕ → Option Span → ℕ
place_with own place None = place
place_with own place (Some span) = if own then place else place_after (span_outcome place span) place span
