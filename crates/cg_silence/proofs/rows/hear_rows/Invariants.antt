use Rattle.std.proofs.Common.{◌≡◌, ◌++◌, drop}
use Rattle.cg_types.specs.Rising.{Rises}
use Rattle.cg_types.specs.Rows.{keys_of}
use Rattle.cg_silence.specs.Walking.{walk_heard}
use Rattle.cg_silence.proofs.rows.hear_rows.Given as goal

abbrev pub invariant-loop-outcome : goal.invariant-loop-outcome
invariant-loop-outcome l = record {
  rise : Rises (keys_of l.rest);
  so_far : l.made.items ++ walk_heard l.silence l.now (drop l.outcome-index l.outcomes) l.rest ≡ walk_heard l.silence l.now l.outcomes l.rows;
}
