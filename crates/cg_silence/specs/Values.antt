-- Values of silence's settings and windows, as contracts see them.
use Rattle.std.specs.Prelude.{ℕ, ◌≡◌, ◌+◌, ◌<◌, ◌≤◌, List, [], ◌++◌, length, sum, Option, Some, None, All, refl}
use Rattle.std.specs.Arc.{arc_value}
use Rattle.std.specs.declared.alloc.Global.{Global}
use Rattle.std.specs.declared.sync.Arc.{Arc}
use Rattle.std.specs.declared.vec.Vec.{Vec}
use Rattle.std.specs.Coded.{Coded, code_by, coded×, coded_ℕ, coded_list, coded_option}
use Rattle.cg_silence.specs.declared.tail.TheConstants.{TAIL_ROOM, RECENT_ROOM}
use Rattle.cg_silence.specs.declared.limits.TheConstants.{WINDOW_LIMIT, GAP_LIMIT, THRESHOLD_LIMIT, DEFAULT_WINDOW, DEFAULT_INITIAL_GAP, DEFAULT_MAX_GAP, DEFAULT_THRESHOLD}

-- the settings of silence: gaps kept, gaps in milliseconds, and thousandths of the mean gap
pub record SilenceValue : Type 0 where
  pub window : ℕ
  pub initial_gap : ℕ
  pub max_gap : ℕ
  pub threshold : ℕ

-- the settings of these four numbers
abbrev pub silence_of : ℕ → ℕ → ℕ → ℕ → SilenceValue
silence_of window initial_gap max_gap threshold =
    record { window = window; initial_gap = initial_gap; max_gap = max_gap; threshold = threshold }

-- the settings if nothing else is set
abbrev pub default_silence : SilenceValue
default_silence = silence_of DEFAULT_WINDOW DEFAULT_INITIAL_GAP DEFAULT_MAX_GAP DEFAULT_THRESHOLD

-- The settings are in their ranges. So a first arrival's gap is recorded, and a window keeps it.
pub record IsSilence (s : SilenceValue) : Type 0 where
  pub some_gaps : 0 < s.window
  pub few_gaps : s.window ≤ WINDOW_LIMIT
  pub some_time : 0 < s.initial_gap
  pub initial_within : s.initial_gap ≤ s.max_gap
  pub max_within : s.max_gap ≤ GAP_LIMIT
  pub some_threshold : 0 < s.threshold
  pub threshold_within : s.threshold ≤ THRESHOLD_LIMIT

-- the recorded gaps that are kept, the oldest first, and the greatest arrival
pub record Shown : Type 0 where
  pub gaps : List ℕ
  pub last : Option ℕ

-- the settings of a window, and what it shows
pub record WindowValue : Type 0 where
  pub silence : SilenceValue
  pub shown : Shown

-- The ring has the settings' room, no gap in it is over the settings' greatest, and the total is the sum of the gaps.
pub record IsWindow (s : SilenceValue) (gaps : List ℕ) (capacity total : ℕ) : Type 0 where
  pub settings : IsSilence s
  pub room : capacity ≡ s.window
  pub few : length gaps ≤ s.window
  pub small : All (λ g. g ≤ s.max_gap) gaps
  pub summed : total ≡ sum gaps

-- the settings of windows, and the gaps that these share
pub record PastValue : Type 0 where
  pub silence : SilenceValue
  pub gaps : List ℕ

-- the gaps of the long list, none before there is one
abbrev pub long_gaps : Option (Arc (Vec ℕ Global) Global) → List ℕ
long_gaps None = []
long_gaps (Some gaps) = (arc_value gaps).items

-- Neither list is longer than the window, and behind the recent gaps there is room for a tail.
pub record IsPast (window : ℕ) (long recent : List ℕ) : Type 0 where
  pub few_long : length long ≤ window
  pub few_recent : length recent ≤ window
  pub room : length recent + TAIL_ROOM ≤ RECENT_ROOM

-- The shared gaps are no more than there is room for. Of them and the few behind them none is over the settings'
-- greatest, and the total is their sum.
pub record IsSharedWindow (s : SilenceValue) (past tail : List ℕ) (total : ℕ) : Type 0 where
  pub settings : IsSilence s
  pub few : length past ≤ s.window
  pub small : All (λ g. g ≤ s.max_gap) (past ++ tail)
  pub summed : total ≡ sum (past ++ tail)

-- the codes that models of values with these require
abbrev pub silence_code : Coded SilenceValue
silence_code =
    code_by (ℕ × (ℕ × (ℕ × ℕ))) (coded× coded_ℕ (coded× coded_ℕ (coded× coded_ℕ coded_ℕ)))
    (λ s. (s.window, (s.initial_gap, (s.max_gap, s.threshold))))
    (λ p. record { window = p.0; initial_gap = p.1.0; max_gap = p.1.1.0; threshold = p.1.1.1 }) (λ _. refl)

abbrev pub shown_code : Coded Shown
shown_code =
    code_by (List ℕ × Option ℕ) (coded× (coded_list coded_ℕ) (coded_option coded_ℕ)) (λ w. (w.gaps, w.last))
    (λ p. record { gaps = p.0; last = p.1 }) (λ _. refl)
