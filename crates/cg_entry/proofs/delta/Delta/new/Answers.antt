use Rattle.cg_entry.proofs.DeltaLemmas.{delta_made, delta_value}
use Rattle.cg_entry.proofs.delta.Delta.new.Goals as goal

pub returns-clause-when : goal.returns-clause-when
returns-clause-when c = delta_made c.args.above c.args.heartbeat c.args.states.items c.args.generation _ _ c.try_new.ensures c.ok.ensures.value

pub returns-clause-value : goal.returns-clause-value
returns-clause-value c = delta_value c.args.above c.args.heartbeat c.args.states.items c.args.generation _ _ c.try_new.ensures c.ok.ensures.value
