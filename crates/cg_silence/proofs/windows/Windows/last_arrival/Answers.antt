use Rattle.std.proofs.Common.{◌∙◌}
use Rattle.cg_silence.proofs.HeardLemmas.{last_held, last_none}
use Rattle.cg_silence.proofs.windows.Windows.last_arrival.Goals as goal

pub returns-in-Some : goal.returns-in-Some
returns-in-Some c =
    c.last_arrival.ensures
    ∙ last_held c.args.self.now c.self.inside.silence c.self.inside.windows c.self.view_is c.args.endpoint c.in-Some.window.now c.in-Some.ensures

pub returns-in-None : goal.returns-in-None
returns-in-None c = last_none c.args.self.now c.self.inside.silence c.self.inside.windows c.self.view_is c.args.endpoint c.in-None.ensures
