-- Statements about journals and lives that are cut.
use Rattle.std.specs.Prelude.{ℕ, ◌≡◌, ◌⊎◌, List, [], take, Ok}
use Rattle.std.specs.List.{filter}
use Rattle.cg_history.specs.History.{HistoryValue}
use Rattle.cg_journal.specs.Reading.{journal_in}
use Rattle.cg_journal.specs.Laws.{Continues}
use Rattle.cg_audit.specs.Items.{RunItem, LivesValue}
use Rattle.cg_audit.specs.OneRun.{IsOneRun}
use Rattle.cg_cut.specs.Cutting.{AreCut, EachSenderIsLeft, is_left}
use Rattle.cg_cut.specs.Whole.{whole_lines}

-- Cut lives are one run by the items left of an order by which the whole lives are, if for each message that is handled
-- there an item that sent it is left before.
abbrev pub CutRunsAreRuns : Type 0
CutRunsAreRuns =
    (lives cut : List LivesValue) (order : List RunItem) → IsOneRun lives order → AreCut lives cut
    → EachSenderIsLeft (is_left cut) [] order → IsOneRun cut (filter (is_left cut) order)

-- The whole lines of the first n bytes of a journal are none, or are read as a history that the whole one continues.
abbrev pub CutJournalsAreRead : Type 0
CutJournalsAreRead =
    (text : List ℕ) (h : HistoryValue) (n : ℕ) → journal_in text ≡ Ok h
    → (whole_lines (take n text) ≡ [])
    ⊎ ((g : HistoryValue) × (journal_in (whole_lines (take n text)) ≡ Ok g) × Continues g h)
