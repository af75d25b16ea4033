use Rattle.cg_tokens.proofs.TextLemmas.{pieces-some, pieces-none, pieces-shorter}
use Rattle.cg_tokens.proofs.text.first_piece.Goals as goal

pub returns-in-Some-clause-pieces : goal.returns-in-Some-clause-pieces
returns-in-Some-clause-pieces c = pieces-some c.args.text.now c.in-Some.piece.now c.in-Some.rest.now (rw c.in-Some.is at c.cut.ensures)

pub returns-in-Some-clause-shorter : goal.returns-in-Some-clause-shorter
returns-in-Some-clause-shorter c = pieces-shorter c.args.text.now c.in-Some.piece.now c.in-Some.rest.now (rw c.in-Some.is at c.cut.ensures)

pub returns-in-None-clause-pieces : goal.returns-in-None-clause-pieces
returns-in-None-clause-pieces c = pieces-none c.args.text.now (rw c.in-None.is at c.cut.ensures)
