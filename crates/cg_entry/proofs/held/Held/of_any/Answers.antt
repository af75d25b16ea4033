use Rattle.std.proofs.Common.{◌≡◌, ◌∙◌, sym, ap, arith}
use Rattle.std.specs.Ordering.{nat_cmp}
use Rattle.std.specs.FinMap as map
use Rattle.cg_entry.specs.Versioned.{Versioned}
use Rattle.cg_entry.proofs.held.Held.of_any.Goals as goal

pub returns-then-len-eq0-clause-value : goal.returns-then-len-eq0-clause-value
returns-then-len-eq0-clause-value c =
    let none : c.len.result ≡ 0 = omega arith in
    c.none.ensures ∙ sym (map.empty_of_len c.args.block (sym c.len.ensures ∙ none))

pub returns-clause-bare : goal.returns-clause-bare
returns-clause-bare c = λ e.
    let none : c.len.result ≡ 0 = c.len.ensures ∙ ap map.len e ∙ map.len-empty nat_cmp Versioned in
    absurd (omega arith)
