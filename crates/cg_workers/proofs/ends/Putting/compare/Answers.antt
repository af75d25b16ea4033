use Rattle.std.proofs.Common.{ap}
use Rattle.cg_workers.specs.declared.rule.Hand.{Hand}
use Rattle.cg_workers.proofs.RoundLemmas.{joins}
use Rattle.cg_workers.proofs.ends.Putting.compare.Goals as goal

pub absorb-requires-clause-rule : goal.absorb-requires-clause-rule
absorb-requires-clause-rule c =
    joins _ _ _ _ (ap (λ (h : Hand). h.puts) c.args.self.puts) (ap (λ (h : Hand). h.takes) c.args.taken.takes)
