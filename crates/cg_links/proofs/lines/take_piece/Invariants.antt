use Rattle.std.proofs.Common.{length}
use Rattle.cg_links.proofs.TakenLemmas.{Taking}
use Rattle.cg_links.proofs.lines.take_piece.Given as goal

abbrev pub invariant-loop-part : goal.invariant-loop-part
invariant-loop-part g l =
    Taking g.T.TakeLine.takes g.T.TakeLine.refuses l.initial.taker l.taker l.initial.front.items l.front.items l.piece l.rest

abbrev pub decreases-loop-part : goal.decreases-loop-part
decreases-loop-part g l = length l.rest
