use Rattle.std.proofs.Common.{◌∙◌, length}
use Rattle.std.specs.FinMap.{entries, len-entries}
use Rattle.cg_entry.proofs.delta.Delta.count.Goals as goal

pub returns-clause-value : goal.returns-clause-value
returns-clause-value c = c.len.ensures ∙ len-entries c.self.inside.states ∙ (λ i. length (entries (c.self.view_is i).states))
