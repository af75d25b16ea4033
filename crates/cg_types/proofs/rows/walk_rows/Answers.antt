use Rattle.std.proofs.Common.{◌∙◌}
use Rattle.std.specs.Vec.Iter.{into_iter_items}
use Rattle.cg_types.proofs.PutLemmas.{rows_step}
use Rattle.cg_types.proofs.rows.walk_rows.Goals as goal

pub loop-row-preserved : goal.loop-row-preserved
loop-row-preserved g c =
    let step = rows_step c.loop-row.made.items c.loop-row.rest.now (into_iter_items c.loop-row.row-iterator) (into_iter_items c.next.new.self) c.around.result.0.now c.around.result.1.now c.endpoint.result c.in-Some.row c.in-Some.ensures.steps.0 c.endpoint.ensures c.around.ensures.before c.around.ensures.after c.loop-row.invariant.rise in
    record {
      rise = step.rise;
      so_far = rw (c.in_ok-push.ensures.items, c.in_ok-share_all.ensures) (step.so_far ∙ c.loop-row.invariant.so_far);
    }
