use Rattle.std.proofs.Common.{◌≡◌, ◌+◌, length, take}
use Rattle.std.specs.List.{flat_map}
use Rattle.cg_frames.specs.Spelling.{delta}
use Rattle.cg_frames.proofs.lengths.deltas_length.Given as goal

abbrev pub invariant-loop-delta : goal.invariant-loop-delta
invariant-loop-delta l = l.length ≡ 2 + length (flat_map delta (take l.delta-index l.deltas))
