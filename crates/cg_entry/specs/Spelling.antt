-- Places and spans, spelled by entries, versions and deltas.
use Rattle.std.specs.Prelude.{ℕ, List, Option, Some, None}
use Rattle.std.specs.Option.{option_and_then}
use Rattle.cg_entry.specs.declared.entry.Absorbed.{Absorbed}
use Rattle.cg_entry.specs.declared.entry.Absorbed.TheVariants as absorbed
use Rattle.cg_entry.specs.Values.{EntryValue, DeltaValue}
use Rattle.cg_entry.specs.Entry.{newest, delta_above}
use Rattle.cg_entry.specs.Taking.{taken_or_gap}
use Rattle.cg_types.specs.ListPlace.{at_place}
use Rattle.cg_entry.specs.Place.{Span, SpanOutcome, Taken, Old, Gap}

abbrev pub version_of : Option EntryValue → ℕ
version_of None = 0
version_of (Some e) = newest e

-- the greatest version at a place, and 0 at none
abbrev pub version_at : List EntryValue → ℕ → ℕ
version_at history place = version_of (at_place history place)

-- the delta that spells a span: the part of the entry at its end above the version at its beginning
abbrev pub delta_of : List EntryValue → Span → Option DeltaValue
delta_of history span = option_and_then (delta_above (version_at history span.from)) (at_place history span.to)

-- the outcome of a span, spelled: a span that is taken leads to the entry at its end
abbrev pub absorbed_of : List EntryValue → Span → SpanOutcome → Absorbed
absorbed_of history span Taken = taken_or_gap (at_place history span.to)
absorbed_of history span Old = absorbed.Old
absorbed_of history span Gap = absorbed.Gap
