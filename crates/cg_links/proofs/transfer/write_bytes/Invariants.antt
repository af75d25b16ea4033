-- The bytes gone from `rest` were appended, and no call failed so far.
use Rattle.std.proofs.Common.{◌≡◌, List, ℕ, ◌++◌, length}
use Rattle.std.specs.Io.KnownBytes.{Appends}
use Rattle.cg_links.specs.Counted.{KeepsCounts}
use Rattle.cg_links.proofs.transfer.write_bytes.Given as goal

abbrev pub invariant-loop-rest : goal.invariant-loop-rest
invariant-loop-rest g l = (done : List ℕ) × (l.bytes ≡ done ++ l.rest) × Appends (g.W.Write.contents l.initial.writer.link) (g.W.Write.contents l.writer.link) done
    × KeepsCounts l.initial.writer l.writer

abbrev pub decreases-loop-rest : goal.decreases-loop-rest
decreases-loop-rest g l = length l.rest
