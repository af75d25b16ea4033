-- The text read so far has this length, and its whole lines have theirs.
use Rattle.std.proofs.Common.{◌≡◌, ◌≤◌, ◌*◌, ℕ, List, length}
use Rattle.std.specs.Io.KnownBytes.{Consumes}
use Rattle.cg_cut.specs.Whole.{whole_length}
use Rattle.cg_cut.proofs.whole.whole_length.Given as goal

abbrev pub invariant-loop : goal.invariant-loop
invariant-loop g l =
    ((text : List ℕ) × Consumes (g.R.Read.remaining l.initial.reader.link) (g.R.Read.remaining l.reader.link) text × (length text ≡ l.read) × (whole_length text ≡ l.whole))
    × (l.read ≤ 4096 * l.counter)
