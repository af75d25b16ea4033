use Rattle.std.proofs.Common.{ap, ◌∙◌}
use Rattle.cg_audit.specs.Lives.{differ}
use Rattle.cg_tool.proofs.GatheredLemmas.{rising_differ}
use Rattle.cg_tool.proofs.journals.Journals.audit.Goals as goal

pub audit-requires : goal.audit-requires
audit-requires c = ap differ c.deref.ensures.value ∙ rising_differ c.self.inside.lives.items c.self.invariant
