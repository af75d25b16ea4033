use Rattle.std.proofs.Common.{◌≡◌, ◌∙◌, sym, ap}
use Rattle.std.specs.FinMap as map
use Rattle.cg_entry.specs.declared.state.State.{State}
use Rattle.cg_entry.specs.State.{value_at_key}
use Rattle.cg_types.proofs.RisingLemmas.{from_sorted-none}
use Rattle.cg_entry.proofs.ReadLemmas.{next_past, next_put}
use Rattle.cg_entry.proofs.block.Block.of.Goals as goal

pub loop-state-init : goal.loop-state-init
loop-state-init c = c.in_ok-block.ensures ∙ sym from_sorted-none

pub push-requires : goal.push-requires
push-requires c =
    let is : c.in_ok-copy.field-0 ≡ c.state-item.result = c.in_ok-copy.ensures in
    rw is (next_past c.args.items.now c.loop-state.state-index c.state-item.result c.requires c.loop-state-test.true c.state-item.is c.loop-state.block c.loop-state.invariant)

pub loop-state-preserved : goal.loop-state-preserved
loop-state-preserved c =
    let is : c.in_ok-copy.field-0 ≡ c.state-item.result = c.in_ok-copy.ensures in
    c.in_ok-push.ensures.ok ∙ ap (λ (s : State). map.insert c.loop-state.block s.key (value_at_key s)) is
    ∙ next_put c.args.items.now c.loop-state.state-index c.state-item.result c.requires c.loop-state-test.true c.state-item.is c.loop-state.block c.loop-state.invariant
