use Rattle.std.proofs.Common.{◌≤◌, ap, arith}
use Rattle.cg_silence.specs.Values.{WindowValue}
use Rattle.cg_silence.proofs.WindowLemmas.{total-kept, keeps_gap}
use Rattle.cg_silence.proofs.window.Window.keep_gap.Goals as goal

pub replace_oldest-self-inside-requires-clause-fits : goal.replace_oldest-self-inside-requires-clause-fits
replace_oldest-self-inside-requires-clause-fits c =
    let few = total-kept c.self.inside.silence c.self.inside.gaps.items c.self.inside.gaps.capacity c.self.inside.total c.self.invariant in
    omega arith

pub invariant_of-self : goal.invariant_of-self
invariant_of-self c =
    let within : c.args.gap ≤ c.self.inside.silence.max_gap = rw (ap (λ (w : WindowValue). w.silence.max_gap) c.self.view_is) c.requires in
    let kept = keeps_gap c.self.inside.silence c.self.inside.gaps.items c.self.inside.gaps.capacity c.self.inside.total c.args.gap c.self.invariant within in
    rw (c.replace_oldest-self-inside.ensures.total, c.replace_oldest-self-inside.ensures.items) kept
