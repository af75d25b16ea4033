-- The values of the limits of a node that runs until it is stopped.
use Rattle.std.specs.Prelude.{◌≡◌, ◌*◌}
use Rattle.cg_agent.specs.declared.limits.TheConstants.{MEBIBYTE, LINE_MOST, NAP, PAUSE, WEB_LIMIT, WEB_TIME}

pub record LimitsAreThese : Type 0 where
  pub mebibyte : MEBIBYTE ≡ 1024 * 1024
  pub line : LINE_MOST ≡ 8192
  pub nap : NAP ≡ 200
  pub pause : PAUSE ≡ 1000
  pub web : WEB_LIMIT ≡ 2
  pub web_time : WEB_TIME ≡ 1000
