use Rattle.std.proofs.Common.{◌≡◌, take, map}
use Rattle.cg_audit.specs.Audit.{life_item}
use Rattle.cg_audit.specs.Tracks.{tracks, heads_left}
use Rattle.cg_audit.proofs.turns.heads.Given as goal

abbrev pub invariant-loop-place : goal.invariant-loop-place
invariant-loop-place l = l.heads.items ≡ map life_item (heads_left (take l.place (tracks l.lives l.cursors)))
