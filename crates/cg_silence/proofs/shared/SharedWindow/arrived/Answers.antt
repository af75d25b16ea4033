use Rattle.std.proofs.Common.{arith}
use Rattle.std.proofs.lemmas.Grind.{common_steps}
use Rattle.cg_silence.proofs.WindowLemmas.{Shows-heard}
use Rattle.cg_silence.proofs.shared.SharedWindow.arrived.Goals as goal

pub returns-clause-step : goal.returns-clause-step
returns-clause-step c = grind (arith, common_steps)

pub returns-clause-every : goal.returns-clause-every
returns-clause-every c = Shows-heard c.args.self.now _ c.args.now (returns-clause-step c)
