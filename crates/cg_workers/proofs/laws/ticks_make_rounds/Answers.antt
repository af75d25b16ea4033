use Rattle.cg_workers.proofs.TickLemmas.{ticks_make}
use Rattle.cg_workers.proofs.laws.ticks_make_rounds.Goals as goal

pub returns : goal.returns
returns g c = λ clock. ticks_make g.E.Enter.receipts g.E.Enter.does g.E.Enter.refuses (g.C.Milliseconds.shows clock)
