use Rattle.std.proofs.Common.{◌+◌, ◌*◌, ◌≤◌, List, length, sym, ◌∙◌, ap, subst}
use Rattle.cg_history.specs.declared.item.Item.{Item}
use Rattle.cg_locked.specs.Log.{no_item}
use Rattle.cg_locked.proofs.Logging.{prepares_moves}
use Rattle.cg_locked.proofs.log.prepared.Goals as goal

pub compare_exchange-found-requires : goal.compare_exchange-found-requires
compare_exchange-found-requires c =
    let h = c.requires.head in
    let same = c.again-seen.ensures in
    let offer = c.plain-offer.ensures in
    let pen = c.no_pen-pen.ensures in
    let book = ap (λ s. s.book) same ∙ sym (ap (λ w. w.book) h) in
    let low : c.args.word ≤ 2 * length c.again-seen.result.log + 1 = subst (λ (l : List Item). c.args.word ≤ 2 * length l + 1) (sym (ap (λ s. s.log) same)) c.requires.word in (
      ap (λ w. w.tracked) h,
      book,
      pen.0 ∙ book,
      offer.0,
      rw (ap (λ w. w.key) h, pen.1, offer.3) (prepares_moves c.again-seen.result.log no_item c.args.word low),
    )
