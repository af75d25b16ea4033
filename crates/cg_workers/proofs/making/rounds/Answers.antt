use Rattle.std.proofs.Common.{ap}
use Rattle.cg_workers.specs.declared.rule.Hand.{Hand}
use Rattle.cg_workers.proofs.RoundLemmas.{starts, cuts}
use Rattle.cg_workers.proofs.making.rounds.Goals as goal

pub bounded_with-requires-clause-rule : goal.bounded_with-requires-clause-rule
bounded_with-requires-clause-rule c = starts

pub another-other-requires-clause-rule : goal.another-other-requires-clause-rule
another-other-requires-clause-rule c =
    let v = c.in_ok-to.ensures.3 in
    cuts _ _ (ap (λ (h : Hand). h.puts) v) (ap (λ (h : Hand). h.takes) v)
