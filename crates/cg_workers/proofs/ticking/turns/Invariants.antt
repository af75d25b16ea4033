use Rattle.std.proofs.Common.{◌≡◌}
use Rattle.cg_workers.specs.Ends.{PutsWhere}
use Rattle.cg_workers.proofs.TickLemmas.{SoFar}
use Rattle.cg_workers.proofs.ticking.turns.Given as goal

abbrev pub invariant-loop-place : goal.invariant-loop-place
invariant-loop-place g l = PutsWhere l.to l.initial.to
    × SoFar g.E.Enter.receipts g.E.Enter.does g.E.Enter.refuses (g.C.Milliseconds.shows l.clock) (g.G.Rng.stream l.initial.generator) (l.initial.gate, l.initial.to) l.place l.refused (g.G.Rng.stream l.generator) (l.gate, l.to)
    × (g.E.Enter.seat l.gate ≡ g.E.Enter.seat l.initial.gate)
