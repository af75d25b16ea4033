use Rattle.std.proofs.Common.{◌≡◌, ◌++◌}
use Rattle.std.specs.Vec.Iter.{into_iter_items}
use Rattle.cg_types.specs.Rising.{Rises}
use Rattle.cg_types.specs.Rows.{keys_of, walk}
use Rattle.cg_types.proofs.rows.walk_rows.Given as goal

abbrev pub invariant-loop-row : goal.invariant-loop-row
invariant-loop-row g l = record {
  rise : Rises (keys_of l.rest);
  so_far : l.made.items ++ walk (into_iter_items l.row-iterator) l.rest ≡ walk l.fn.changes.items l.rows;
}
