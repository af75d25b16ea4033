-- Places in an owner's history. A place is the number of its entries that were seen: 0 is none, and the entry held is
-- the one at that place.
use Rattle.std.specs.Prelude.{◌≡◌, ℕ, ◌<◌, ◌≤◌, ◌⊎◌, List, length, nat_le, if◌then◌else◌}
use Rattle.cg_entry.specs.Values.{EntryValue}
use Rattle.cg_entry.specs.History.{generation_at}

-- the step that brings a holder from one place to a later one
pub record Span : Type 0 where
  pub from : ℕ
  pub to : ℕ

-- The span lies in the history, and in one generation unless it begins at none.
pub record IsSpan (history : List EntryValue) (span : Span) : Type 0 where
  pub rises : span.from < span.to
  pub stands : span.to ≤ length history
  pub alike : (span.from ≡ 0) ⊎ (generation_at history span.from ≡ generation_at history span.to)

-- the outcome of a span at a holder
pub data SpanOutcome : Type 0 where
  Taken Old Gap : SpanOutcome

-- the outcome of a span at a holder at a place: the first case that fits
abbrev pub span_outcome : ℕ → Span → SpanOutcome
span_outcome place span =
    if nat_le span.to place then Old
    else if nat_le span.from place then Taken
    else Gap

-- the place of the holder afterwards
abbrev pub place_after : SpanOutcome → ℕ → Span → ℕ
place_after Taken place span = span.to
place_after Old place span = place
place_after Gap place span = place
