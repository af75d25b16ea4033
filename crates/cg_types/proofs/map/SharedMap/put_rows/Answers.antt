use Rattle.cg_types.proofs.MapLemmas.{walked_view, walked_valid}
use Rattle.cg_types.proofs.map.SharedMap.put_rows.Goals as goal

pub invariant_of-result : goal.invariant_of-result
invariant_of-result g c = rw (c.in_ok-walk_rows.ensures, c.deref.ensures.value) (walked_valid c.args.changes.items c.self.inside.rows.items c.args.self.now c.self.invariant c.self.view_is c.requires)

pub returns : goal.returns
returns g c = rw (c.in_ok-walk_rows.ensures, c.deref.ensures.value) (walked_view c.args.changes.items c.self.inside.rows.items c.args.self.now c.self.invariant c.self.view_is c.requires)
