use Rattle.std.proofs.Common.{◌∙◌, sym, ap}
use Rattle.std.specs.FinMap as map
use Rattle.std.specs.Ordering.{nat_cmp}
use Rattle.cg_entry.specs.Standing.{standing_states}
use Rattle.cg_entry.specs.Versioned.{Versioned}
use Rattle.cg_entry.proofs.standing.Standing.len.Goals as goal

pub returns-in-Bare : goal.returns-in-Bare
returns-in-Bare c = sym (map.len-empty nat_cmp Versioned) ∙ ap map.len (sym (ap standing_states c.in-Bare.is) ∙ c.self.view_is)
