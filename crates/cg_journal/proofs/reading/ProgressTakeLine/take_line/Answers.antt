use Rattle.std.proofs.Common.{ap, ◌∙◌}
use Rattle.cg_links.specs.Counts.{one_more}
use Rattle.cg_journal.proofs.reading.ProgressTakeLine.take_line.Goals as goal

pub returns-in-Ok : goal.returns-in-Ok
returns-in-Ok c =
    let (h, read, is) = c.in-Ok.ensures.read in
    (h, read, is, c.saturating_add-self.ensures ∙ ap one_more c.in-Ok.ensures.lines)
