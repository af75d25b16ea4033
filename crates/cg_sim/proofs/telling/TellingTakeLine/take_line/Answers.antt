use Rattle.std.proofs.Common.{refl}
use Rattle.cg_sim.proofs.telling.TellingTakeLine.take_line.Goals as goal

pub returns-in-Ok : goal.returns-in-Ok
returns-in-Ok g c = record { writer = refl; told = c.in-Ok.ensures }

pub returns-in-Err : goal.returns-in-Err
returns-in-Err g c = record { writer = refl; stops = c.in-Err.ensures }
