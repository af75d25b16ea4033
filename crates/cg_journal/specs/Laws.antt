-- Statements about journals that are read or written.
use Rattle.std.specs.Prelude.{◌≡◌, ℕ, List, [], ◌∷◌, ◌++◌, map, Some, Ok}
use Rattle.std.specs.List.{AllByRecursion}
use Rattle.cg_types.specs.Numbers.{IsGeneration}
use Rattle.cg_history.specs.declared.item.Item.{Item}
use Rattle.cg_history.specs.Items.{events_of}
use Rattle.cg_core.specs.declared.event.Event.{Event}
use Rattle.cg_core.specs.SettingsValues.{SettingsValue}
use Rattle.cg_history.specs.declared.item.Receipt.{Receipt}
use Rattle.cg_history.specs.History.{HistoryValue, new_history, apply}
use Rattle.cg_links.specs.Lines.{lines_of}
use Rattle.cg_journal.specs.Text.{event_line, journal_of}
use Rattle.cg_journal.specs.Reading.{life_in, event_in, journal_in}
use Rattle.cg_journal.specs.Contents.{IsEvent, MayStart, IsWritable}

-- The history began as the first of the lines says. It has a record for each other line, with the line's event, for
-- caller 0, and none is folded.
pub record IsOfItsLines (lines : List (List ℕ)) (h : HistoryValue) : Type 0 where
  pub first : List ℕ
  pub others : List (List ℕ)
  pub are : lines ≡ first ∷ others
  pub start : HistoryValue
  pub begins : life_in first ≡ Some start
  pub begun : h.start ≡ start.start
  pub base : h.base ≡ start.base
  pub whole : h.folded ≡ 0
  pub events : map event_in others ≡ map Some (events_of h.records)
  pub callers : AllByRecursion (λ r. r.caller ≡ 0) h.records

abbrev pub ReadHistoriesAreOfTheirLines : Type 0
ReadHistoriesAreOfTheirLines =
    (text : List ℕ) (h : HistoryValue) → journal_in text ≡ Ok h → IsOfItsLines (lines_of text) h

-- The history continues another one: it began with the same node, and has the other's records first.
pub record Continues (g h : HistoryValue) : Type 0 where
  pub start : h.start ≡ g.start
  pub base : h.base ≡ g.base
  pub folded : h.folded ≡ g.folded
  pub more : List Item
  pub records : h.records ≡ g.records ++ more

-- The text up to a line feed, with it, is read as a history that the whole journal's history continues.
abbrev pub FrontsAreRead : Type 0
FrontsAreRead =
    (front rest : List ℕ) (h : HistoryValue) → journal_in (front ++ 10 ∷ rest) ≡ Ok h
    → (g : HistoryValue) × (journal_in (front ++ 10 ∷ []) ≡ Ok g) × Continues g h

-- ---- written texts

-- The text of an event is one line, which is read as that event.
pub record IsItsLine (e : Event) : Type 0 where
  pub line : List ℕ
  pub only : lines_of (event_line e) ≡ line ∷ []
  pub read : event_in line ≡ Some e

abbrev pub WrittenEventsAreRead : Type 0
WrittenEventsAreRead = (e : Event) → IsEvent e → IsItsLine e

-- the record, for caller 0
abbrev pub for_caller_0 : Item → Item
for_caller_0 i = record { caller = 0; event = i.event; reply = i.reply; puts = i.puts }

-- the history, with each record for caller 0
abbrev pub uncalled : HistoryValue → HistoryValue
uncalled h = record {
  start = h.start;
  base = h.base;
  folded = h.folded;
  records = map for_caller_0 h.records;
  node = h.node;
}

-- The text of the history is read as that history, for caller 0, and that one is written as the same text.
pub record IsReadAsWritten (h : HistoryValue) : Type 0 where
  pub read : journal_in (journal_of h) ≡ Ok (uncalled h)
  pub again : journal_of (uncalled h) ≡ journal_of h

abbrev pub WrittenHistoriesAreRead : Type 0
WrittenHistoriesAreRead = (h : HistoryValue) → IsWritable h → IsReadAsWritten h

-- Histories are writable from their start on, whatever event is done.
pub record WritableHistoriesGoOn : Type 0 where
  pub begins : (own generation : ℕ) (s : SettingsValue) → IsGeneration generation → MayStart own s
      → IsWritable (new_history own generation s)
  pub goes_on :
      (h : HistoryValue) (caller : ℕ) (e : Event) (after : HistoryValue) (q : Receipt) → IsWritable h → IsEvent e
      → apply h caller e ≡ Ok (after, q) → IsWritable after

-- The history is writable, and its text is read as it.
pub record IsReadAgain (h : HistoryValue) : Type 0 where
  pub writable : IsWritable h
  pub again : journal_in (journal_of h) ≡ Ok h

abbrev pub ReadHistoriesAreReadAgain : Type 0
ReadHistoriesAreReadAgain = (text : List ℕ) (h : HistoryValue) → journal_in text ≡ Ok h → IsReadAgain h
