use Rattle.std.proofs.Common.{◌∙◌, sym, ap}
use Rattle.std.specs.FinMap as map
use Rattle.std.specs.Ordering.{nat_cmp}
use Rattle.cg_entry.specs.Standing.{standing_states}
use Rattle.cg_entry.specs.Versioned.{States}
use Rattle.cg_entry.proofs.standing.Standing.get.Goals as goal

pub returns-in-Bare-clause-value : goal.returns-in-Bare-clause-value
returns-in-Bare-clause-value c = sym (map.get-empty nat_cmp c.args.key) ∙ ap (λ (m : States). map.get m c.args.key) (sym (ap standing_states c.in-Bare.is) ∙ c.self.view_is)
