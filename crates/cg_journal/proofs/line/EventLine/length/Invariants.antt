use Rattle.std.proofs.Common.{◌≡◌, ◌^◌, ◌-◌, map, length, take, string_bytes}
use Rattle.std.specs.Prelude.{min}
use Rattle.cg_journal.specs.Text.{joined}
use Rattle.cg_journal.proofs.line.EventLine.length.Given as goal

abbrev pub invariant-loop-piece : goal.invariant-loop-piece
invariant-loop-piece l = l.length ≡ min (length (joined (map (λ s. string_bytes s) (take l.piece-index l.piece-items)))) (2 ^ 64 - 1)
