use Rattle.std.proofs.Common.{ap}
use Rattle.cg_workers.specs.declared.rule.Hand.{Hand}
use Rattle.cg_workers.proofs.RoundLemmas.{puts}
use Rattle.cg_workers.proofs.ends.Putting.put.Goals as goal

pub send_as-requires-clause-rule : goal.send_as-requires-clause-rule
send_as-requires-clause-rule g c =
    let v = c.args.self.now.puts in
    (puts _ _ _ _ (ap (λ (h : Hand). h.puts) v) (ap (λ (h : Hand). h.takes) v), (λ items views h at. tt))
