use Rattle.std.proofs.Common.{◌∙◌, sym, ap, eqb-true, eq-eqb}
use Rattle.std.specs.FinMap as map
use Rattle.std.specs.Ordering.{nat_cmp}
use Rattle.cg_entry.specs.Versioned.{Versioned}
use Rattle.std.specs.FinMap.{empty_of_len, len-empty}
use Rattle.cg_entry.proofs.held.Held.is_empty.Goals as goal

pub returns : goal.returns
returns c = (λ yes. empty_of_len c.args.self.now (sym c.len.ensures ∙ eqb-true c.len.result 0 yes), λ e. eq-eqb c.len.result 0 (c.len.ensures ∙ ap map.len e ∙ len-empty nat_cmp Versioned))
