use Rattle.std.proofs.Common.{◌≡◌, ◌≤◌, ◌+◌, ◌++◌, ◌∷◌, [], suc, length, take, sym, ap, ◌∙◌, arith}
use Rattle.cg_audit.specs.Tracks.{first_cursors}
use Rattle.cg_audit.proofs.CursorLemmas.{cursors_more}
use Rattle.cg_audit.proofs.PlaceLemmas.{take_all}
use Rattle.cg_audit.proofs.cursor.cursors.Goals as goal

pub loop-preserved : goal.loop-preserved
loop-preserved c =
    let next : suc c.loop.index ≡ c.loop.index + 1 = omega arith in
    c.in_ok-push.ensures.items ∙ ap (λ cs. cs ++ record { life = 0; number = 0 } ∷ []) c.loop.invariant
    ∙ sym (cursors_more c.args.lives.now c.loop.index c.loop-test.true)
    ∙ ap (λ k. first_cursors (take k c.args.lives.now)) next

pub returns : goal.returns
returns c =
    let all : length c.args.lives.now ≤ c.loop.index = omega arith in
    c.loop.invariant ∙ ap first_cursors (take_all c.args.lives.now c.loop.index all)
