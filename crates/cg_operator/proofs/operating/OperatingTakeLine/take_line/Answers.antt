use Rattle.std.proofs.Common.{refl}
use Rattle.cg_operator.proofs.StepLemmas.{goes_step}
use Rattle.cg_operator.proofs.operating.OperatingTakeLine.take_line.Goals as goal

pub returns-in-Ok : goal.returns-in-Ok
returns-in-Ok g c = goes_step _ _ _ c.in-Ok.next _ _ _ (record { gate = refl; pass = refl; writer = refl }) c.in-Ok.ensures
