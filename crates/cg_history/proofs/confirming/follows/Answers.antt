use Rattle.std.proofs.Common.{◌≡◌, ◌≤◌, ◌<◌, ◌+◌, ◌-◌, length, Some, refl, sym, ap, ◌∙◌, arith}
use Rattle.std.specs.Prelude.{slice_get}
use Rattle.std.proofs.lemmas.Bool.{ltb-true, lt-ltb}
use Rattle.cg_history.specs.declared.item.Receipt.{Receipt}
use Rattle.cg_history.proofs.Confirmed.{at_place_within, follows_others, others_more, follows_near, near_before}
use Rattle.cg_history.proofs.confirming.follows.Goals as goal

pub loop-place-preserved : goal.loop-place-preserved
loop-place-preserved c =
    let near = c.index-before-place.result in
    let p = c.loop-place.place - 1 in
    let less : p < length c.args.before.now = omega arith in
    let at = at_place_within c.args.before.now p near less ∙ ap Some (sym c.index-before-place.is) in
    record {
      within = omega arith;
      others = others_more c.args.before.now c.args.receipt.now near p at c.if-earlier-receipt.false (λ i q le is. c.loop-place.invariant.others i q (omega arith) is);
    }

pub returns-then-earlier-receipt : goal.returns-then-earlier-receipt
returns-then-earlier-receipt c =
    let near = c.index-before-place.result in
    let r = c.args.receipt.now in
    let p = c.loop-place.place - 1 in
    let less : p < length c.args.before.now = omega arith in
    let at = at_place_within c.args.before.now p near less ∙ ap Some (sym c.index-before-place.is) in
    let others = λ (i : _) (q : Receipt) (le : p + 1 ≤ i) (is : slice_get c.args.before.now i ≡ Some q). c.loop-place.invariant.others i q (omega arith) is in (
      λ t. follows_near c.args.before.now r near p c.requires.order at c.if-earlier-receipt.true others (ltb-true near.number r.number t),
      λ f. lt-ltb near.number r.number (near_before c.args.before.now r near p c.requires.order at c.if-earlier-receipt.true others f),
    )

pub returns : goal.returns
returns c = (
  (λ _. follows_others c.args.before.now c.args.receipt.now (λ i q is. c.loop-place.invariant.others i q (omega arith) is)),
  (λ _. refl),
)
