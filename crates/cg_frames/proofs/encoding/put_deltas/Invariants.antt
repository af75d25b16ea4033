use Rattle.std.proofs.Common.{◌≡◌, ◌++◌, length, take}
use Rattle.std.specs.List.{flat_map}
use Rattle.cg_entry.specs.Section.{two_bytes}
use Rattle.cg_frames.specs.Spelling.{delta}
use Rattle.cg_frames.proofs.encoding.put_deltas.Given as goal

abbrev pub invariant-loop-delta : goal.invariant-loop-delta
invariant-loop-delta g l = l.out.items ≡ l.fn.out.items ++ (two_bytes (length l.deltas) ++ flat_map (λ d. delta (g.D.ListedDelta.value d)) (take l.delta-index l.deltas))
