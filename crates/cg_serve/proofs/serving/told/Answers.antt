use Rattle.std.proofs.Common.{codes, inr, refl, sym}
use Rattle.cg_types.proofs.FaultLines.{out_of_memory_line}
use Rattle.cg_serve.proofs.serving.told.Goals as goal

pub returns-in-Err : goal.returns-in-Err
returns-in-Err g c =
    (codes "fault 1 OutOfMemory\n", 1, (sym c.in-Err.ensures.refused, inr (out_of_memory_line, refl)), c.written-in-Err.ensures)
