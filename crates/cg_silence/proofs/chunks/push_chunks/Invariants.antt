use Rattle.std.proofs.Common.{◌≡◌, ◌++◌}
use Rattle.std.specs.Vec.Iter.{into_iter_items}
use Rattle.cg_silence.specs.Walking.{flat}
use Rattle.cg_silence.proofs.chunks.push_chunks.Given as goal

abbrev pub invariant-loop-row : goal.invariant-loop-row
invariant-loop-row l = (flat l.made.items ++ l.piece.items) ++ into_iter_items l.row-iterator ≡ flat l.fn.made.items ++ l.fn.rows.items
