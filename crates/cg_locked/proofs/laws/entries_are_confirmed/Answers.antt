use Rattle.cg_locked.proofs.Confirming.{entries_are_confirmed}
use Rattle.cg_locked.proofs.laws.entries_are_confirmed.Goals as goal

pub returns : goal.returns
returns c = entries_are_confirmed
