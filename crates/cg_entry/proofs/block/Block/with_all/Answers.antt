use Rattle.std.proofs.Common.{◌≡◌, ◌∙◌, ◌-◌, length, take, drop, List, refl, sym, ap, arith}
use Rattle.std.specs.FinMap as map
use Rattle.cg_entry.specs.declared.state.State.{State}
use Rattle.cg_entry.specs.State.{value_at_key}
use Rattle.cg_entry.specs.Block.{put_all}
use Rattle.cg_entry.proofs.BlockLemmas.{rest_from}
use Rattle.cg_entry.proofs.OverlayLemmas.{put_next, put_whole}
use Rattle.cg_entry.proofs.block.Block.with_all.Goals as goal

pub loop-state-init : goal.loop-state-init
loop-state-init c =
    let step : c.in_ok-block.block ≡ map.insert c.args.self.now c.index-newer-0.result.key (value_at_key c.index-newer-0.result) = c.in_ok-block.ensures ∙ ap (λ (s : State). map.insert c.args.self.now s.key (value_at_key s)) c.in_ok-copy.ensures in
    ap (λ (xs : List State). put_all xs c.in_ok-block.block) (rest_from c.args.newer.now 1)
    ∙ put_next c.args.newer.now 0 c.index-newer-0.result c.args.self.now c.in_ok-block.block (c.if-not-is_before.ensures.some refl) c.index-newer-0.is step

pub put_newest-requires : goal.put_newest-requires
put_newest-requires c = rw (c.in_ok-copy-2.ensures, c.block.view_is) (c.if-not-is_older.ensures refl)

pub loop-state-preserved : goal.loop-state-preserved
loop-state-preserved c =
    let rest : List State = take (length c.args.newer.now - 1) (drop 1 c.args.newer.now) in
    let step : c.in_ok-block-2.block ≡ map.insert c.loop-state.block c.state-item.result.key (value_at_key c.state-item.result) = c.in_ok-block-2.ensures ∙ (λ i. map.insert (c.block.view_is i) (c.in_ok-copy-2.ensures i).key (value_at_key (c.in_ok-copy-2.ensures i))) in
    put_next rest c.loop-state.state-index c.state-item.result c.loop-state.block c.in_ok-block-2.block c.loop-state-test.true c.state-item.is step ∙ c.loop-state.invariant

pub returns : goal.returns
returns c =
    let rest : List State = take (length c.args.newer.now - 1) (drop 1 c.args.newer.now) in
    sym (put_whole rest c.loop-state.state-index c.loop-state.block (omega (arith, c.loop-state-test.false))) ∙ c.loop-state.invariant
