use Rattle.std.proofs.Common.{refl}
use Rattle.cg_threads.proofs.finishing.confirm_behind.Goals as goal

pub returns-in-Ok-clause-history : goal.returns-in-Ok-clause-history
returns-in-Ok-clause-history c = refl

pub returns-in-Ok-clause-confirmed : goal.returns-in-Ok-clause-confirmed
returns-in-Ok-clause-confirmed c = c.in-Ok.ensures

pub returns-in-Err-clause-history : goal.returns-in-Err-clause-history
returns-in-Err-clause-history c = refl

pub returns-in-Err-clause-confirmed : goal.returns-in-Err-clause-confirmed
returns-in-Err-clause-confirmed c = (c.in-Err.unconfirmed.place, refl, c.in-Err.ensures)
