use Rattle.cg_journal.proofs.OfLines.{of_its_lines}
use Rattle.cg_journal.proofs.laws.each_line_makes_one_record.Goals as goal

pub returns : goal.returns
returns c = of_its_lines
