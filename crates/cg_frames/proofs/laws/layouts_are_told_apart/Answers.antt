use Rattle.cg_frames.proofs.LawLemmas.{layouts_are}
use Rattle.cg_frames.proofs.laws.layouts_are_told_apart.Goals as goal

pub returns-clause-layouts : goal.returns-clause-layouts
returns-clause-layouts c = layouts_are
