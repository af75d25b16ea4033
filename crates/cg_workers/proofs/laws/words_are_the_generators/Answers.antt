use Rattle.cg_workers.proofs.WordLemmas.{ticks_draw_first}
use Rattle.cg_workers.proofs.laws.words_are_the_generators.Goals as goal

pub returns : goal.returns
returns c = ticks_draw_first
