use Rattle.cg_silence.proofs.HeardLemmas.{heard_judge, heard_shows}
use Rattle.cg_silence.proofs.windows.Windows.after.Goals as goal

pub invariant_of-result : goal.invariant_of-result
invariant_of-result c = rw c.in_ok-heard.ensures (heard_judge c.self.inside.silence c.self.inside.windows c.self.invariant c.args.now c.args.outcomes.now c.requires)

pub returns : goal.returns
returns c = rw c.in_ok-heard.ensures (heard_shows c.self.inside.silence c.self.inside.windows c.self.invariant c.args.now c.args.outcomes.now c.requires c.args.self.now c.self.view_is)
