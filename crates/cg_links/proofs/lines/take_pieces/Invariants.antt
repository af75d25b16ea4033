use Rattle.cg_links.proofs.ReadingLemmas.{Reading}
use Rattle.cg_links.proofs.lines.take_pieces.Given as goal

abbrev pub invariant-loop : goal.invariant-loop
invariant-loop g l =
    Reading g.T.TakeLine.takes g.T.TakeLine.refuses l.initial.taker l.taker l.front.items
    (g.R.Read.remaining l.initial.reader.link) (g.R.Read.remaining l.reader.link) l.initial.reader l.reader l.counter
