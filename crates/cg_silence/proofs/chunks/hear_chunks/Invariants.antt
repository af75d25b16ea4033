use Rattle.std.proofs.Common.{◌≡◌, ◌++◌, drop}
use Rattle.cg_types.specs.Rising.{Rises}
use Rattle.cg_types.specs.Rows.{keys_of}
use Rattle.cg_messages.specs.Members.{endpoints_of_outcomes}
use Rattle.cg_silence.specs.Walking.{flat, walk_heard}
use Rattle.cg_silence.proofs.chunks.hear_chunks.Given as goal

abbrev pub invariant-loop-at : goal.invariant-loop-at
invariant-loop-at l = record {
  rows : Rises (keys_of (flat (drop l.at l.chunks)));
  outcomes : Rises (endpoints_of_outcomes l.rest);
  so_far : flat l.made.items ++ walk_heard l.silence l.now l.rest (flat (drop l.at l.chunks)) ≡ walk_heard l.silence l.now l.outcomes (flat l.chunks);
}
