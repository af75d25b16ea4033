use Rattle.std.proofs.Common.{◌≡◌, ◌+◌, ◌++◌, ◌∷◌, [], ℕ, map, take, length, string_bytes, sym, ap, ◌∙◌, arith, length-append}
use Rattle.std.proofs.lemmas.List.{take_more}
use Rattle.cg_journal.specs.Text.{joined}
use Rattle.cg_journal.proofs.LineLemmas.{joined_more}
use Rattle.cg_journal.proofs.line.EventLine.length.Goals as goal

pub loop-piece-preserved : goal.loop-piece-preserved
loop-piece-preserved c =
    let at = c.loop-piece.piece-index in
    let pieces = c.deref-piece-items.result.now in
    let piece = c.piece-item.result in
    let more : take (at + 1) pieces ≡ take at pieces ++ piece ∷ [] =
    take_more pieces at piece c.loop-piece-test.true ∙ ap (λ p. take at pieces ++ p ∷ []) (sym c.piece-item.is) in
    let all : length (joined (map (λ s. string_bytes s) (take (at + 1) pieces))) ≡ length (joined (map (λ s. string_bytes s) (take at pieces))) + length (string_bytes piece) =
    ap length (joined_more (λ s. string_bytes s) (take at pieces) (take (at + 1) pieces) piece more) ∙ length-append (joined (map (λ s. string_bytes s) (take at pieces))) (string_bytes piece) in
    omega (arith, all, c.loop-piece.invariant, c.len.ensures, c.saturating_add-length.ensures)
