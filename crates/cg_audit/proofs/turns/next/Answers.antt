use Rattle.std.proofs.Common.{◌≡◌, ◌<◌, ◌≤◌, length, arith}
use Rattle.cg_audit.specs.Tracks.{tracks}
use Rattle.cg_audit.proofs.NextLemmas.{next_at_start, next_over_lives, next_over_all, within_lives}
use Rattle.cg_audit.proofs.turns.next.Goals as goal

pub loop-place-init : goal.loop-place-init
loop-place-init c = next_at_start c.args.sent.now (tracks c.args.lives.now c.args.cursors.now)

pub loop-place-preserved : goal.loop-place-preserved
loop-place-preserved c =
    let few : c.loop-place.place < length c.args.lives.now = omega arith in
    next_over_lives c.args.lives.now c.args.cursors.now c.requires c.args.sent.now c.loop-place.place c.loop-place.chosen c.loop-place.invariant c.better-chosen.result few c.better-chosen.ensures

pub returns : goal.returns
returns c =
    let all : length c.args.lives.now ≤ c.loop-place.place = omega arith in
    next_over_all c.args.lives.now c.args.cursors.now c.requires c.args.sent.now c.loop-place.place c.loop-place.chosen c.loop-place.invariant all

pub better-chosen-requires-clause-chosen : goal.better-chosen-requires-clause-chosen
better-chosen-requires-clause-chosen c = within_lives c.args.lives.now c.args.cursors.now c.requires c.args.sent.now c.loop-place.place c.loop-place.chosen c.loop-place.invariant
