use Rattle.cg_sim.proofs.StepLemmas.{same_writer, lines_told}
use Rattle.cg_sim.proofs.telling.tell_lines.Goals as goal

pub returns-clause-writer : goal.returns-clause-writer
returns-clause-writer g c = same_writer _ _ _ _ _ _ _ c.take_lines.result c.take_lines.ensures.lines

pub returns-clause-told : goal.returns-clause-told
returns-clause-told g c = lines_told _ _ _ _ _ _ _ c.requires c.take_lines.result c.take_lines.ensures.lines
