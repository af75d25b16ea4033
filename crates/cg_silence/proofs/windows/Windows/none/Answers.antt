use Rattle.std.proofs.Common.{◌≡◌, ap, ◌∙◌}
use Rattle.std.specs.Ordering.{nat_cmp}
use Rattle.std.specs.FinMap as map
use Rattle.cg_silence.specs.Values.{WindowValue}
use Rattle.cg_silence.specs.Windows.{shown_in}
use Rattle.cg_silence.proofs.HeardLemmas.{none_judge, shown-empty}
use Rattle.cg_silence.proofs.windows.Windows.none.Goals as goal

pub invariant_of-result : goal.invariant_of-result
invariant_of-result c = rw c.none.ensures (none_judge c.args.silence)

pub returns : goal.returns
returns c =
    let none : shown_in c.none.result ≡ map.empty = ap (λ (m : map.FinMap nat_cmp WindowValue). shown_in m) c.none.ensures ∙ shown-empty in
    λ i. record { silence = c.args.silence; shown = none i }
