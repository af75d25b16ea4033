use Rattle.std.proofs.Common.{map, take, string_bytes}
use Rattle.cg_journal.specs.Written.{WritesAll}
use Rattle.cg_journal.proofs.line.write_pieces.Given as goal

abbrev pub invariant-loop-piece : goal.invariant-loop-piece
invariant-loop-piece g l =
    WritesAll (g.W.Write.contents l.initial.writer.link) (g.W.Write.contents l.writer.link) l.initial.writer l.writer (map (λ s. string_bytes s) (take l.piece-index l.pieces))
