use Rattle.std.proofs.Common.{◌≡◌, ◌++◌, map, length, string_bytes}
use Rattle.hex.specs.Hex.{encode_lower}
use Rattle.cg_journal.specs.Text.{joined}
use Rattle.cg_journal.proofs.line.add_pieces.Given as goal

abbrev pub invariant-loop-rest : goal.invariant-loop-rest
invariant-loop-rest l =
    joined (map (λ s. string_bytes s) l.pieces.items) ++ encode_lower l.rest ≡ joined (map (λ s. string_bytes s) l.initial.pieces.items) ++ encode_lower l.initial.rest

abbrev pub decreases-loop-rest : goal.decreases-loop-rest
decreases-loop-rest l = length l.rest
