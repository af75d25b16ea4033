-- The numbers of the callers, and of the workers.
use Rattle.std.specs.Prelude.{◌≡◌}
use Rattle.cg_threads.specs.declared.callers.TheConstants.{RECEIVER, SENDER, TICKER, OPERATOR, WORKERS}

pub record CallersHaveTheirNumbers : Type 0 where
  pub receiver : RECEIVER ≡ 1
  pub sender : SENDER ≡ 2
  pub ticker : TICKER ≡ 3
  pub operator : OPERATOR ≡ 4
  pub workers : WORKERS ≡ 4
