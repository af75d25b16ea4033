-- Lives that are to be audited, and tests of them.
use Rattle.std.specs.Prelude.{Bool, true, ◌==◌, ◌&&◌, not, map, List, [], ◌∷◌, ◌++◌, None}
use Rattle.std.specs.List.{list_all, list_any}
use Rattle.cg_types.specs.Rising.{rise_past}
use Rattle.cg_history.specs.History.{HistoryValue}
use Rattle.cg_audit.specs.Items.{LivesValue, generation_of}

-- the lives of an endpoint that has one
abbrev pub lone_life : HistoryValue → LivesValue
lone_life h = record { endpoint = h.base.table.own; histories = h ∷ [] }

-- lives of an endpoint, and one more behind them
abbrev pub then_life : LivesValue → HistoryValue → LivesValue
then_life l h = record { endpoint = l.endpoint; histories = l.histories ++ h ∷ [] }

-- `true` if no two of these are of one endpoint
abbrev pub differ : List LivesValue → Bool
differ [] = true
differ (l ∷ ls) = not (list_any (λ (k : LivesValue). k.endpoint == l.endpoint) ls) && differ ls

-- `true` if no record of these histories is folded
abbrev pub none_folded : List HistoryValue → Bool
none_folded histories = list_all (λ (h : HistoryValue). h.folded == 0) histories

-- `true` if no record of any life is folded
abbrev pub are_whole : List LivesValue → Bool
are_whole lives = list_all (λ (l : LivesValue). none_folded l.histories) lives

-- `true` if the generations of each endpoint rise
abbrev pub all_rise : List LivesValue → Bool
all_rise lives = list_all (λ (l : LivesValue). rise_past None (map generation_of l.histories)) lives
