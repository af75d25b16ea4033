use Rattle.std.proofs.Common.{codes, refl, inr}
use Rattle.cg_types.proofs.FaultLines.{out_of_memory_line}
use Rattle.cg_tool.proofs.auditing.write_report.Goals as goal

pub returns : goal.returns
returns g c = (codes "fault 1 OutOfMemory\n", 1, inr (record { text_is = out_of_memory_line; status_is = refl }), c.written-in-Err.ensures)
