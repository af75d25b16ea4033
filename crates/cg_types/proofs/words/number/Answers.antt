use Rattle.cg_types.proofs.WordLemmas.{numbers_found, numbers_missed}
use Rattle.std.proofs.Common.{arith}
use Rattle.cg_types.proofs.words.number.Goals as goal

pub returns-clause-some : goal.returns-clause-some
returns-clause-some c = numbers_found _ _ _ (omega arith) c.read_number.ensures

pub returns-clause-none : goal.returns-clause-none
returns-clause-none c = numbers_missed _ _ _ (omega arith) c.read_number.ensures
