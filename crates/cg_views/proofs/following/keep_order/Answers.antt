use Rattle.std.proofs.Common.{sym, ◌∙◌}
use Rattle.cg_views.proofs.RisingPuts.{each_in_order}
use Rattle.cg_views.proofs.following.keep_order.Goals as goal

pub returns : goal.returns
returns c = c.each_is_in_order.ensures ∙ sym (each_in_order c.args.table.now c.args.rows.now c.requires)
