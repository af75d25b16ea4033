use Rattle.std.proofs.Common.{◌≡◌, sym, ◌∙◌}
use Rattle.cg_audit.specs.Tracks.{track_at, tracks}
use Rattle.cg_audit.proofs.NextLemmas.{is_ready_at, named_tracks, track_there}
use Rattle.cg_audit.proofs.turns.is_ready_at.Goals as goal

pub returns : goal.returns
returns c =
    c.is_ready.ensures
    ∙ sym (is_ready_at c.args.sent.now (tracks c.args.lives.now c.args.cursors.now) (named_tracks c.args.lives.now c.args.cursors.now) c.args.place (track_at c.lives_at-one.result.now c.cursor_at-cursor.result)
    (track_there c.args.lives.now c.args.cursors.now c.args.place c.lives_at-one.result.now c.cursor_at-cursor.result c.lives_at-one.ensures c.cursor_at-cursor.ensures))
