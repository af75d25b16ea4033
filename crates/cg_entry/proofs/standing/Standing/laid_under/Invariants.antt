use Rattle.cg_entry.specs.Entry.{overlay}
use Rattle.cg_entry.proofs.HeldLemmas.{Shows}
use Rattle.cg_entry.proofs.standing.Standing.laid_under.Given as goal

abbrev pub invariant-loop-number : goal.invariant-loop-number
invariant-loop-number l = Shows l.block (overlay l.self l.newer) l.number
