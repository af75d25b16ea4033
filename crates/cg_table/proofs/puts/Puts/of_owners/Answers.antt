use Rattle.std.proofs.Common.{◌∙◌, ◌++◌, sym, take_all}
use Rattle.std.specs.Option.{option_to_list}
use Rattle.cg_table.proofs.ListLemmas.{filter_map_more}
use Rattle.cg_table.specs.Puts.{row_at}
use Rattle.cg_table.proofs.PutsLemmas.{rows_at-rise}
use Rattle.cg_table.proofs.puts.Puts.of_owners.Goals as goal

pub loop-owner-preserved : goal.loop-owner-preserved
loop-owner-preserved c =
    c.in_ok-push_some.ensures.ok ∙ (λ i. c.loop-owner.invariant i ++ option_to_list ((c.in_ok-share_some.ensures ∙ c.row_near-row.ensures) i))
    ∙ sym (filter_map_more (row_at c.args.table.now.entries) c.args.owners.now c.loop-owner.owner-index c.owner-item.result c.loop-owner-test.true c.owner-item.is)

pub invariant_of-result : goal.invariant_of-result
invariant_of-result c =
    let all = take_all c.loop-owner.owner-index c.args.owners.now c.loop-owner-test.false in
    rw (c.loop-owner.invariant, all) (rows_at-rise c.args.table.now.entries c.args.owners.now c.requires)
