use Rattle.std.proofs.Common.{ap}
use Rattle.cg_workers.specs.declared.rule.Hand.{Hand}
use Rattle.cg_workers.proofs.RoundLemmas.{takes}
use Rattle.cg_workers.proofs.ends.Taking.take.Goals as goal

pub recv_as-requires-clause-rule : goal.recv_as-requires-clause-rule
recv_as-requires-clause-rule g c =
    let v = c.args.self.now.takes in
    (takes _ _ (ap (λ (h : Hand). h.takes) v) (ap (λ (h : Hand). h.puts) v), (λ items views h at. tt))
