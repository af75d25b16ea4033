use Rattle.cg_frames.proofs.LawLemmas.{inside_short}
use Rattle.cg_frames.proofs.laws.each_is_short.Goals as goal

pub returns-clause-each : goal.returns-clause-each
returns-clause-each c = inside_short
