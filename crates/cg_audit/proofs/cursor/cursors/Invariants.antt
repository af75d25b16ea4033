use Rattle.std.proofs.Common.{◌≡◌, take}
use Rattle.cg_audit.specs.Tracks.{first_cursors}
use Rattle.cg_audit.proofs.cursor.cursors.Given as goal

abbrev pub invariant-loop : goal.invariant-loop
invariant-loop l = l.cursors.items ≡ first_cursors (take l.index l.lives)
