use Rattle.std.proofs.Common.{◌≡◌, drop}
use Rattle.std.specs.Ordering.{nat_cmp}
use Rattle.std.specs.FinMap.Entries.{find}
use Rattle.cg_types.specs.Rising.{Rises}
use Rattle.cg_types.specs.Rows.{keys_of}
use Rattle.cg_silence.specs.Walking.{flat}
use Rattle.cg_silence.proofs.chunks.find_in.Given as goal

abbrev pub invariant-loop-chunk : goal.invariant-loop-chunk
invariant-loop-chunk l = record {
  rise : Rises (keys_of (flat (drop l.chunk-index l.chunks)));
  same : find nat_cmp l.endpoint (flat (drop l.chunk-index l.chunks)) ≡ find nat_cmp l.endpoint (flat l.chunks);
}
