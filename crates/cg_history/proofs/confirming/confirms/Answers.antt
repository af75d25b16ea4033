use Rattle.std.proofs.Common.{rules, take_all, take, length, ◌+◌, ◌<◌, ◌≡◌, ◌∙◌, ap, subst, sym, arith, List, ◌++◌, ◌∷◌, []}
use Rattle.std.proofs.lemmas.List.{take_more}
use Rattle.cg_history.specs.declared.item.Receipt.{Receipt}
use Rattle.cg_history.specs.Confirming.{AreConfirmed, IsConfirmed}
use Rattle.cg_history.proofs.Confirmed.{confirmed_more}
use Rattle.cg_history.proofs.AtMost.{at_most_more}
use Rattle.cg_history.proofs.confirming.confirms.Goals as goal

pub loop-place-preserved : goal.loop-place-preserved
loop-place-preserved c =
    let receipts = c.args.receipts.now in
    let folded = c.args.folded in
    let records = c.args.records.now in
    let i = c.loop-place.place in
    let r = c.index-receipts-place.result in
    let before = take i receipts in
    let less : i < length receipts = omega arith in
    let one : IsConfirmed folded records before r = search rules in
    let more : take (i + 1) receipts ≡ before ++ r ∷ [] = take_more receipts i r less ∙ ap (λ (q : Receipt). before ++ q ∷ []) (sym c.index-receipts-place.is) in
    record {
      confirmed = subst (λ (rs : List Receipt). AreConfirmed folded records rs) (sym more) (confirmed_more folded records before r c.loop-place.invariant.confirmed one);
      at_most = at_most_more c.loop-place.greatest c.raise.new.self receipts i r less c.index-receipts-place.is c.loop-place.invariant.at_most c.raise.ensures.kept c.raise.ensures.own;
    }

pub returns : goal.returns
returns c = subst (λ (rs : List Receipt). AreConfirmed c.args.folded c.args.records.now rs) (take_all c.loop-place.place c.args.receipts.now c.loop-place-test.false) c.loop-place.invariant.confirmed
