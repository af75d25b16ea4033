-- The values of the limits of connections.
use Rattle.std.specs.Prelude.{◌≡◌}
use Rattle.cg_workers.specs.declared.limits.TheConstants.{RESPOND_LIMIT, LEAST_LIMIT, CALL_TRIES, ACCEPT_PAUSE, LINE_PAUSE}

pub record LimitValues : Type 0 where
  pub respond : RESPOND_LIMIT ≡ 2000
  pub least : LEAST_LIMIT ≡ 100
  pub calls : CALL_TRIES ≡ 16
  pub pause : ACCEPT_PAUSE ≡ 100
  pub line : LINE_PAUSE ≡ 1000
