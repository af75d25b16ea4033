-- Each line so far was done.
use Rattle.cg_agent.specs.Lines.{DoneLines}
use Rattle.cg_agent.proofs.lines.do_lines_at.Given as goal

abbrev pub invariant-loop : goal.invariant-loop
invariant-loop g l = DoneLines g.N.Name.start g.N.Naming.opening.own l.initial.gate l.gate
