use Rattle.std.proofs.Common.{◌≡◌, ◌+◌, ◌++◌, ◌∷◌, [], take, string_bytes, sym, ap, ◌∙◌}
use Rattle.std.proofs.lemmas.List.{take_more}
use Rattle.cg_journal.proofs.LineLemmas.{piece_written, piece_broken}
use Rattle.cg_journal.proofs.line.write_pieces.Goals as goal

pub returns-in-Err : goal.returns-in-Err
returns-in-Err g c =
    let at = c.loop-piece.piece-index in
    let pieces = c.args.pieces.now in
    let piece = c.piece-item.result in
    let more : take (at + 1) pieces ≡ take at pieces ++ piece ∷ [] =
    take_more pieces at piece c.loop-piece-test.true ∙ ap (λ p. take at pieces ++ p ∷ []) (sym c.piece-item.is) in
    piece_broken (λ s. string_bytes s) _ _ _ _ _ _ pieces at piece more c.loop-piece.invariant _ c.in-Err.ensures.fault (rw c.as_bytes.ensures.value at c.in-Err.ensures.front) c.in-Err.ensures.caused

pub loop-piece-preserved : goal.loop-piece-preserved
loop-piece-preserved g c =
    let at = c.loop-piece.piece-index in
    let pieces = c.args.pieces.now in
    let piece = c.piece-item.result in
    let more : take (at + 1) pieces ≡ take at pieces ++ piece ∷ [] =
    take_more pieces at piece c.loop-piece-test.true ∙ ap (λ p. take at pieces ++ p ∷ []) (sym c.piece-item.is) in
    piece_written (λ s. string_bytes s) _ _ _ _ _ _ pieces at piece more c.loop-piece.invariant (rw c.as_bytes.ensures.value at c.in-Ok.ensures.ok) c.in-Ok.ensures.kept
