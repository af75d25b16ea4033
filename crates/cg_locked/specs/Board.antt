-- A board's publisher, and what it shows; and what a board folds.
use Rattle.std.specs.Prelude.{ℕ, ◌≡◌, ◌-◌, List, [], min}
use Rattle.cg_table.specs.Values.{TableValue}
use Rattle.cg_table.specs.Puts.{Put}
use Rattle.cg_history.specs.declared.item.Item.{Item}
use Rattle.cg_history.specs.History.{HistoryValue, IsFoldOf}
use Rattle.cg_views.specs.Lists.{PublisherValue}

-- a publisher that shows all that was appended
abbrev pub shows_all : TableValue → List Put → PublisherValue
shows_all t puts = record { opening = t; published = puts; pending = [] }

-- The number of records that are folded if this number is to be kept, of those that the history keeps: all before them,
-- but none that is not published.
abbrev pub fold_length : ℕ → ℕ → ℕ → ℕ
fold_length keep published kept = min (kept - keep) published

-- If none of all records of a history is folded, it keeps all of them, and its base is the node that started.
abbrev pub NoneIsFolded : Type 0
NoneIsFolded =
    (all : List Item) (h : HistoryValue) → IsFoldOf all h → h.folded ≡ 0 → (h.records ≡ all) × (h.base ≡ h.start)
