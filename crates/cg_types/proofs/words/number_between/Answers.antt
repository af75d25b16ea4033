use Rattle.std.proofs.Common.{arith}
use Rattle.cg_types.proofs.WordLemmas.{between_found, between_missed}
use Rattle.cg_types.proofs.words.number_between.Goals as goal

pub returns-clause-some : goal.returns-clause-some
returns-clause-some c = between_found _ _ _ _ (omega arith) c.read_between.ensures

pub returns-clause-none : goal.returns-clause-none
returns-clause-none c = between_missed _ _ _ _ (omega arith) c.read_between.ensures
