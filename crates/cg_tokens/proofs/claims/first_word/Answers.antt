use Rattle.cg_tokens.proofs.TextLemmas.{first_word}
use Rattle.cg_tokens.proofs.claims.first_word.Goals as goal

pub returns : goal.returns
returns c = first_word c.args.text.now c.first_piece.result.0.now _ c.first_piece.ensures.pieces
