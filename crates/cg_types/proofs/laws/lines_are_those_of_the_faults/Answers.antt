use Rattle.cg_types.proofs.FaultLines.{out_of_memory_line, read_fault_line}
use Rattle.cg_types.proofs.laws.lines_are_those_of_the_faults.Goals as goal

pub returns-clause-memory : goal.returns-clause-memory
returns-clause-memory c = out_of_memory_line

pub returns-clause-read : goal.returns-clause-read
returns-clause-read c = read_fault_line
