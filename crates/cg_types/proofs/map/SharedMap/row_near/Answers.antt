use Rattle.std.proofs.Common.{◌≡◌, ◌∙◌, ℕ, Some, refl, ap}
use Rattle.std.specs.Option.{option_map}
use Rattle.cg_types.proofs.MapLemmas.{got, not_got}
use Rattle.cg_types.proofs.map.SharedMap.row_near.Goals as goal

pub returns-in-Ok : goal.returns-in-Ok
returns-in-Ok g c =
    let row = c.index.result.now in
    let here = c.in-Ok.ensures.found in
    let held = got c.self.inside.rows.items c.deref.result.now c.args.self.now c.args.endpoint c.in-Ok.at row row.1 c.deref.ensures.value c.self.invariant c.self.view_is here c.index.ensures refl in
    let key : row.0 ≡ c.args.endpoint = ap (λ (r : ℕ × g.row.T.Denot). r.0) c.index.ensures ∙ (rw c.deref.ensures.value at here).has_key row in
    (λ i. Some (key i, row.1)) ∙ ap (option_map (λ (v : g.row.T.Denot). (c.args.endpoint, v))) held

pub returns-in-Err : goal.returns-in-Err
returns-in-Err g c =
    let none = not_got c.self.inside.rows.items c.deref.result.now c.args.self.now c.args.endpoint c.in-Err.field-0 c.deref.ensures.value c.self.invariant c.self.view_is c.in-Err.ensures.absent in
    ap (option_map (λ (v : g.row.T.Denot). (c.args.endpoint, v))) none
