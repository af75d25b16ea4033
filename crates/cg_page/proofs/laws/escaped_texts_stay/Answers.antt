use Rattle.cg_page.proofs.EscapedLemmas.{stays}
use Rattle.cg_page.proofs.laws.escaped_texts_stay.Goals as goal

pub returns : goal.returns
returns c = stays
