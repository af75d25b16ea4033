-- The limits and defaults, as numbers.
use Rattle.std.specs.Prelude.{◌≡◌}
use Rattle.cg_silence.specs.declared.limits.TheConstants.{WINDOW_LIMIT, GAP_LIMIT, THRESHOLD_LIMIT, THRESHOLD_UNIT}
use Rattle.cg_silence.specs.Values.{silence_of, default_silence}

-- The most gaps in a window, the greatest gap in milliseconds, the greatest threshold and the one of a mean gap. Then
-- the settings if nothing else is set.
pub record LimitsAreThese : Type 0 where
  pub window : WINDOW_LIMIT ≡ 1000
  pub gap : GAP_LIMIT ≡ 86400000
  pub threshold : THRESHOLD_LIMIT ≡ 1000000000
  pub unit : THRESHOLD_UNIT ≡ 1000
  pub defaults : default_silence ≡ silence_of 1000 2000 60000 18421
