use Rattle.std.proofs.Common.{[], ◌∷◌, refl, ap, ◌∙◌}
use Rattle.cg_types.specs.Rows.{before, after}
use Rattle.cg_types.proofs.MapLemmas.{walked_view, walked_valid, put_rows}
use Rattle.cg_types.proofs.map.SharedMap.put_row.Goals as goal

pub invariant_of-result : goal.invariant_of-result
invariant_of-result g c =
    let row = c.args.row in
    let at = c.endpoint.ensures in
    let whole = put_rows c.self.inside.rows.items c.deref.result.now c.around.result.0.now c.around.result.1.now row.0 row.1 c.deref.ensures.value
    (c.around.ensures.before ∙ ap (λ k. before k c.deref.result.now) at) (c.around.ensures.after ∙ ap (λ k. after k c.deref.result.now) at) in
    rw (c.in_ok-share_all-2.ensures, c.in_ok-push.ensures.items, c.in_ok-share_all.ensures, c.in_ok-rows.ensures.items, whole)
    (walked_valid (row ∷ []) c.self.inside.rows.items c.args.self.now c.self.invariant c.self.view_is refl)

pub returns : goal.returns
returns g c =
    let row = c.args.row in
    let at = c.endpoint.ensures in
    let whole = put_rows c.self.inside.rows.items c.deref.result.now c.around.result.0.now c.around.result.1.now row.0 row.1 c.deref.ensures.value
    (c.around.ensures.before ∙ ap (λ k. before k c.deref.result.now) at) (c.around.ensures.after ∙ ap (λ k. after k c.deref.result.now) at) in
    rw (c.in_ok-share_all-2.ensures, c.in_ok-push.ensures.items, c.in_ok-share_all.ensures, c.in_ok-rows.ensures.items, whole)
    (walked_view (row ∷ []) c.self.inside.rows.items c.args.self.now c.self.invariant c.self.view_is refl)
