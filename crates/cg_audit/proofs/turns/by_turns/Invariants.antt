use Rattle.std.proofs.Common.{◌≡◌, length, map}
use Rattle.cg_audit.specs.Tracks.{track_of, tracks}
use Rattle.cg_audit.proofs.StateLemmas.{IsAtTurn}
use Rattle.cg_audit.proofs.TrackLemmas.{count_in}
use Rattle.cg_audit.proofs.turns.by_turns.Given as goal

abbrev pub invariant-loop-place : goal.invariant-loop-place
invariant-loop-place l = record {
  count : length l.cursors.items ≡ length l.lives;
  at : IsAtTurn (map track_of l.lives) (tracks l.lives l.cursors.items) l.sent l.items.items;
}

abbrev pub decreases-loop-place : goal.decreases-loop-place
decreases-loop-place l = count_in (tracks l.lives l.cursors.items)
