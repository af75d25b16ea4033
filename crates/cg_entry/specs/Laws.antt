-- The laws of the entries of one owner, and of the deltas that spell spans of its history.
use Rattle.std.specs.Prelude.{◌≡◌, ◌↔◌, ℕ, ◌<◌, ◌≤◌, ◌⊎◌, true, List, [], ◌∷◌, ◌++◌, length, Option, Some, IsSome}
use Rattle.cg_entry.specs.Values.{EntryValue, DeltaValue}
use Rattle.cg_entry.specs.Entry.{starting_entry, newest, is_later, delta_above}
use Rattle.cg_entry.specs.Taking.{meeting, entry_after}
use Rattle.cg_types.specs.ListPlace.{at_place}
use Rattle.cg_entry.specs.History.{Follows, IsHistory, generation_at}
use Rattle.cg_entry.specs.Place.{Span, IsSpan, span_outcome, place_after}
use Rattle.cg_entry.specs.Spelling.{version_at, delta_of, absorbed_of}

-- A start alone is a history, and a history goes on by each entry that may follow its last one.
pub record HistoriesGrow : Type 0 where
  pub first : (generation : ℕ) → IsHistory (starting_entry generation ∷ [])
  pub next : (history : List EntryValue) (x y : EntryValue)
      → IsHistory history → at_place history (length history) ≡ Some x → Follows x y → IsHistory (history ++ y ∷ [])

-- Each entry is later than those before it: its generation is greater, or in one generation its newest version.
abbrev pub EntriesRise : Type 0
EntriesRise =
    (history : List EntryValue) → IsHistory history → (p q : ℕ) (x y : EntryValue)
    → at_place history p ≡ Some x → at_place history q ≡ Some y → p < q → is_later y x ≡ true

-- A generation and a version name at most one place of a history, and so one entry.
abbrev pub VersionsNameEntries : Type 0
VersionsNameEntries =
    (history : List EntryValue) → IsHistory history → (p q : ℕ) (x y : EntryValue)
    → at_place history p ≡ Some x → at_place history q ≡ Some y
    → x.generation ≡ y.generation → newest x ≡ newest y → (p ≡ q) × (x ≡ y)

-- The facts of a delta that spells a span, at a holder at a place of the history.
pub record IsTakenAsItsSpan (history : List EntryValue) (span : Span) (place : ℕ) (delta : DeltaValue) : Type 0 where
  -- its outcome is that of the span: if it is taken, the entry that it leads to is the whole entry at the span's end
  pub outcome : meeting (at_place history place) delta ≡ absorbed_of history span (span_outcome place span)
  -- the entry held afterwards is the whole entry at the new place
  pub held : entry_after (at_place history place) (meeting (at_place history place) delta)
      ≡ at_place history (place_after (span_outcome place span) place span)

-- A delta that spells a span is taken as the span is, at each place of its history.
abbrev pub SpelledDeltasAreTaken : Type 0
SpelledDeltasAreTaken =
    (history : List EntryValue) → IsHistory history → (span : Span) → IsSpan history span
    → (place : ℕ) → place ≤ length history
    → (delta : DeltaValue) → delta_of history span ≡ Some delta → IsTakenAsItsSpan history span place delta

-- The facts of the part that the entry at one place has above the version at another one.
pub record IsDeltaOfPlaces (history : List EntryValue) (from to : ℕ) (delta : Option DeltaValue) : Type 0 where
  -- it is there exactly if the place `to` is past the place `from`
  pub exists : IsSome delta ↔ (from < to)
  -- it spells the span from one place to the other
  pub spells : (d : DeltaValue) → delta ≡ Some d
      → IsSpan history (record { from = from; to = to }) × (delta_of history (record { from = from; to = to }) ≡ Some d)

-- The part of an entry above the version at a place of its generation, or at none, spells a span.
abbrev pub DeltasSpellSpans : Type 0
DeltasSpellSpans =
    (history : List EntryValue) → IsHistory history → (from to : ℕ) (entry : EntryValue)
    → from ≤ length history → at_place history to ≡ Some entry
    → (from ≡ 0) ⊎ (generation_at history from ≡ entry.generation)
    → IsDeltaOfPlaces history from to (delta_above (version_at history from) entry)
