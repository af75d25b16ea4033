-- The bytes before i are none of those sought.
use Rattle.std.proofs.Common.{◌≡◌, take, drop}
use Rattle.cg_types.specs.Words.{cut_at}
use Rattle.cg_types.proofs.WordLemmas.{with_front}
use Rattle.cg_types.proofs.words.cut.Given as goal

abbrev pub invariant-loop-i : goal.invariant-loop-i
invariant-loop-i l = cut_at l.at l.bytes ≡ with_front (take l.i l.bytes) (cut_at l.at (drop l.i l.bytes))
