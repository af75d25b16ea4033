use Rattle.std.proofs.Common.{◌∙◌, length, sym}
use Rattle.std.specs.FinMap.{entries}
use Rattle.cg_entry.proofs.RemovalLemmas.{len-under}
use Rattle.cg_entry.proofs.entry.Entry.count.Goals as goal

pub returns-clause-value : goal.returns-clause-value
returns-clause-value c = c.len.ensures ∙ sym (len-under c.self.inside.removals c.self.inside.states) ∙ (λ i. length (entries (c.self.view_is i).states))
