use Rattle.std.proofs.Common.{rules, ◌≡◌, None, subst}
use Rattle.cg_frames.specs.Feeding.{IsCut}
use Rattle.cg_frames.proofs.CuttingLemmas.{not_cut}
use Rattle.cg_frames.proofs.feed.begin.Goals as goal

pub returns-in_err-held-clause-at_once : goal.returns-in_err-held-clause-at_once
returns-in_err-held-clause-at_once c err =
    let cutting = c.in_ok-cutting.cutting in
    let none : c.in_ok-cutting.cutting.fed.fault ≡ None = search rules in
    let cut = subst (λ f. IsCut c.args.layouts.now c.args.piece.now cutting.fed.messages.items cutting.taken f) none c.in_ok-cutting.ensures.ok in
    absurd (not_cut c.args.layouts.now c.args.piece.now cutting.fed.messages.items cutting.taken cut err)
