use Rattle.cg_entry.proofs.SpellingLaws.{spelled_deltas_are_taken}
use Rattle.cg_entry.proofs.laws.spelled_deltas_are_taken.Goals as goal

pub returns : goal.returns
returns c = spelled_deltas_are_taken
