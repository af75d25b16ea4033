use Rattle.std.proofs.Common.{◌≡◌, ◌≤◌, ◌++◌, sum, sym, ap, arith, ◌∙◌}
use Rattle.std.specs.Arc.{arc_value}
use Rattle.circular_buffer.specs.Buffer.{keep_last}
use Rattle.cg_silence.specs.Values.{WindowValue}
use Rattle.cg_silence.proofs.WindowLemmas.{small_sum, shared_joined}
use Rattle.cg_silence.proofs.shared.SharedWindow.keep_behind_joined.Goals as goal

pub overflow_add-self : goal.overflow_add-self
overflow_add-self c =
    let w = c.self.inside in
    let v = arc_value w.past in
    let kept : c.kept-kept.result.1 ≡ sum (keep_last v.silence.window (v.gaps ++ w.tail)) = c.kept-kept.ensures.total ∙ sym (ap (λ (v : WindowValue). sum v.shown.gaps) c.self.view_is) in
    let few = small_sum v.silence v.gaps w.tail w.total c.self.invariant in
    omega arith

pub invariant_of-self : goal.invariant_of-self
invariant_of-self c =
    let w = c.self.inside in
    let v = arc_value w.past in
    let small : c.args.gap ≤ v.silence.max_gap = rw (ap (λ (v : WindowValue). v.silence.max_gap) c.self.view_is) c.requires in
    let kept : c.kept-kept.result.1 ≡ sum (keep_last v.silence.window (v.gaps ++ w.tail)) = c.kept-kept.ensures.total ∙ sym (ap (λ (v : WindowValue). sum v.shown.gaps) c.self.view_is) in
    rw (c.in_ok-self-inside.ensures.ok, c.in_ok-past.ensures, c.deref.ensures, c.as_slice.ensures.value, c.push.ensures, c.none-tail.ensures, c.from.ensures)
    (shared_joined v.silence v.gaps w.tail w.total c.args.gap c.kept-kept.result.1 c.self.invariant small kept)
