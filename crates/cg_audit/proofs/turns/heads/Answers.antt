use Rattle.std.proofs.Common.{◌≡◌, ◌≤◌, ◌∷◌, [], length, map, sym, ap, ◌∙◌, arith}
use Rattle.std.proofs.lemmas.List.{append-nil}
use Rattle.cg_audit.specs.Audit.{life_item}
use Rattle.cg_audit.specs.Steps.{run_item}
use Rattle.cg_audit.specs.Tracks.{heads_left, tracks}
use Rattle.cg_audit.proofs.LivesLemmas.{heads_next}
use Rattle.cg_audit.proofs.NextLemmas.{length_tracks}
use Rattle.cg_audit.proofs.PlaceLemmas.{take_all}
use Rattle.cg_audit.proofs.turns.heads.Goals as goal
use Rattle.cg_audit.proofs.turns.heads.Goals.{in-None, in-Some+in_ok-push-in-Some}

pub loop-place-preserved : goal.loop-place-preserved
loop-place-preserved c = elim c.match-first.branch [
  | in-None w ↦ ap (λ v. v.items) w.heads-is ∙ sym (append-nil c.loop-place.heads.items)
      ∙ heads_next c.args.lives.now c.args.cursors.now c.loop-place.place c.lives_at-one.result.now c.cursor_at-cursor.result c.lives_at-one.ensures c.cursor_at-cursor.ensures [] w.in-None.ensures c.loop-place.heads.items c.loop-place.invariant
  | in-Some+in_ok-push-in-Some w ↦ ap (λ v. v.items) w.heads-is ∙ w.in_ok-push-in-Some.ensures.items
      ∙ heads_next c.args.lives.now c.args.cursors.now c.loop-place.place c.lives_at-one.result.now c.cursor_at-cursor.result c.lives_at-one.ensures c.cursor_at-cursor.ensures (run_item w.in-Some.step ∷ []) w.in-Some.ensures c.loop-place.heads.items c.loop-place.invariant
]

pub returns : goal.returns
returns c =
    let long = length_tracks c.args.lives.now c.args.cursors.now c.requires in
    let all : length (tracks c.args.lives.now c.args.cursors.now) ≤ c.loop-place.place = omega (arith, long) in
    c.loop-place.invariant ∙ ap (λ ts. map life_item (heads_left ts)) (take_all (tracks c.args.lives.now c.args.cursors.now) c.loop-place.place all)
