use Rattle.cg_exchange.specs.Walking.{AreSame}
use Rattle.cg_exchange.proofs.answers.behind_same.Given as goal

abbrev pub invariant-loop-count : goal.invariant-loop-count
invariant-loop-count l = AreSame l.count l.rows l.digests
