use Rattle.cg_types.proofs.MapLemmas.{got, not_got}
use Rattle.cg_types.proofs.map.SharedMap.get_near.Goals as goal

pub returns-in-Ok : goal.returns-in-Ok
returns-in-Ok g c = got c.self.inside.rows.items c.deref.result.now c.args.self.now c.args.endpoint c.in-Ok.at c.index.result.now c.value.result.now c.deref.ensures.value c.self.invariant c.self.view_is c.in-Ok.ensures.found c.index.ensures c.value.ensures

pub returns-in-Err : goal.returns-in-Err
returns-in-Err g c = not_got c.self.inside.rows.items c.deref.result.now c.args.self.now c.args.endpoint c.in-Err.field-0 c.deref.ensures.value c.self.invariant c.self.view_is c.in-Err.ensures.absent
