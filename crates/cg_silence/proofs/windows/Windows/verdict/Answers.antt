use Rattle.std.proofs.Common.{◌∙◌}
use Rattle.cg_silence.proofs.HeardLemmas.{verdict_held, verdict_none}
use Rattle.cg_silence.proofs.windows.Windows.verdict.Goals as goal

pub returns-in-Some : goal.returns-in-Some
returns-in-Some c =
    c.verdict.ensures
    ∙ verdict_held c.args.self.now c.self.inside.silence c.self.inside.windows c.self.view_is c.args.endpoint c.args.now c.self.invariant c.in-Some.window.now c.in-Some.ensures

pub returns-in-None : goal.returns-in-None
returns-in-None c = verdict_none c.args.self.now c.self.inside.silence c.self.inside.windows c.self.view_is c.args.endpoint c.args.now c.in-None.ensures
