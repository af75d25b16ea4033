use Rattle.cg_status.specs.Metrics.{verdict_line}
use Rattle.cg_status.proofs.metrics.add_verdict.Goals as goal

pub returns : goal.returns
unfolding verdict_line
returns c = rw c.count_of-count.ensures at c.writeln.ensures.bytes
