use Rattle.cg_types.proofs.MapLemmas.{listed}
use Rattle.cg_types.proofs.map.SharedMap.rows.Goals as goal

pub returns-clause-value : goal.returns-clause-value
returns-clause-value g c = listed c.self.inside.rows.items c.deref.result.now c.args.self.now c.deref.ensures.value c.self.invariant c.self.view_is
