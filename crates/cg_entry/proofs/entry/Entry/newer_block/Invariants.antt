use Rattle.std.specs.FinMap as map
use Rattle.cg_entry.proofs.NewerLemmas.{HasNewer}
use Rattle.cg_entry.proofs.entry.Entry.newer_block.Given as goal

abbrev pub invariant-loop-number : goal.invariant-loop-number
invariant-loop-number l = HasNewer l.block l.above l.number (map.entries l.self.states)
