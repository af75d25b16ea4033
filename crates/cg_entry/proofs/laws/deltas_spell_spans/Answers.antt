use Rattle.cg_entry.proofs.SpellingLaws.{deltas_spell_spans}
use Rattle.cg_entry.proofs.laws.deltas_spell_spans.Goals as goal

pub returns : goal.returns
returns c = deltas_spell_spans
