use Rattle.std.proofs.Common.{◌≤◌, ℕ, List, [], ◌∷◌, ◌++◌, Option, ap, arith, ◌∙◌}
use Rattle.std.specs.Arc.{arc_value}
use Rattle.circular_buffer.specs.Buffer.{keep_last}
use Rattle.cg_silence.specs.Values.{SilenceValue, WindowValue}
use Rattle.cg_silence.proofs.WindowLemmas.{total-shared, shared_more, shown_more}
use Rattle.cg_silence.proofs.shared.SharedWindow.keep_gap.Goals as goal

pub overflow_add-self : goal.overflow_add-self
overflow_add-self c =
    let w = c.self.inside in
    let few = total-shared (arc_value w.past).silence (arc_value w.past).gaps w.tail w.total c.self.invariant in
    omega arith

pub invariant_of-self : goal.invariant_of-self
invariant_of-self c =
    let w = c.self.inside in
    let past = arc_value w.past in
    let small : c.args.gap ≤ past.silence.max_gap = rw (ap (λ (v : WindowValue). v.silence.max_gap) c.self.view_is) c.requires in
    rw (c.push.ensures, c.from.ensures) (shared_more past.silence past.gaps w.tail w.total c.args.gap c.self.invariant small)

-- a window that shows these gaps
abbrev window_of : SilenceValue → Option ℕ → List ℕ → WindowValue
window_of s last gaps = record { silence = s; shown = record { gaps = gaps; last = last } }

pub returns-clause-ok : goal.returns-clause-ok
returns-clause-ok c =
    let w = c.self.inside in
    let past = arc_value w.past in
    rw c.push.ensures
    (ap (window_of past.silence w.last) (shown_more past.silence.window past.gaps w.tail c.args.gap)
    ∙ ap (λ (v : WindowValue). window_of v.silence v.shown.last (keep_last v.silence.window (v.shown.gaps ++ c.args.gap ∷ []))) c.self.view_is)
