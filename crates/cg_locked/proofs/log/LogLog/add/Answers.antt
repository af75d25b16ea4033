use Rattle.std.proofs.Common.{◌≡◌, ◌+◌, ◌*◌, ℕ, length, sym, ◌∙◌, ap}
use Rattle.cg_locked.specs.Log.{place_behind}
use Rattle.cg_locked.proofs.Logging.{adds_moves}
use Rattle.cg_locked.proofs.log.LogLog.add.Goals as goal

pub compare_exchange-found-requires : goal.compare_exchange-found-requires
compare_exchange-found-requires g c =
    let i = c.self.invariant in
    let h = i.2 in
    let same = c.again-seen.ensures in
    let offer = c.plain-offer.ensures in
    let its = sym (ap (λ w. w.book) h) in
    let long = i.0 ∙ sym (ap (λ s. length s.log) same) in
    let place : c.self.inside.place.nib ≡ place_behind c.again-seen.result.log = i.4 ∙ ap place_behind (sym (ap (λ s. s.log) same)) in (
      ap (λ w. w.tracked) h,
      ap (λ s. s.book) same ∙ (i.1 ∙ its),
      i.3 ∙ its,
      offer.0,
      rw (ap (λ w. w.key) h, place, offer.1, offer.3) (adds_moves c.again-seen.result.log c.args.item.now (2 * c.self.inside.len + 2) (ap (λ (n : ℕ). 2 * n + 2) long)),
    )
