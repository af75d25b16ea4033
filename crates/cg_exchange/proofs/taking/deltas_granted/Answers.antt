use Rattle.std.proofs.Common.{◌∙◌, ◌++◌, sym}
use Rattle.std.specs.Option.{option_to_list}
use Rattle.cg_exchange.specs.Taking.{delta_granted}
use Rattle.cg_table.proofs.ListLemmas.{filter_map_more}
use Rattle.cg_exchange.proofs.taking.deltas_granted.Goals as goal

pub loop-request-preserved : goal.loop-request-preserved
loop-request-preserved c =
    c.in_ok-push_some.ensures.ok ∙ (λ i. c.loop-request.invariant i ++ option_to_list (c.in_ok-delta.ensures i))
    ∙ sym (filter_map_more (delta_granted c.args.table.now.entries) c.args.requests.now c.loop-request.request-index c.request-item.result c.loop-request-test.true c.request-item.is)
