use Rattle.std.proofs.Common.{◌≡◌, ◌+◌, ◌-◌, ◌++◌, length, sum, refl, ap, ◌∙◌}
use Rattle.std.specs.Arc.{arc_value}
use Rattle.cg_silence.specs.Values.{WindowValue}
use Rattle.cg_silence.proofs.WindowLemmas.{sum_kept}
use Rattle.cg_silence.proofs.shared.SharedWindow.kept.Goals as goal

pub returns-clause-total : goal.returns-clause-total
returns-clause-total c =
    let w = c.self.inside in
    let past = arc_value w.past in
    let long = c.as_slices.result.0.now in
    let recent = c.as_slices.result.1.now in
    let tail = c.as_slice-tail.result.now in
    let all : (long ++ recent) ++ tail ≡ past.gaps ++ w.tail = rw (c.as_slices.ensures, c.as_slice-tail.ensures.value, c.deref-past.ensures) refl in
    let n : c.window.result ≡ past.silence.window = rw (c.window.ensures.value, c.silence.ensures, c.deref-past.ensures) refl in
    let left : c.saturating_sub-left.result ≡ length long + length recent + length tail - past.silence.window = rw (← n) c.saturating_sub-left.ensures in
    sum_kept past.silence.window w.total c.saturating_sub-left.result c.sum_of_three.result long recent tail (past.gaps ++ w.tail) all left c.sum_of_three.ensures c.self.invariant.summed
    ∙ ap (λ (v : WindowValue). sum v.shown.gaps) c.self.view_is
