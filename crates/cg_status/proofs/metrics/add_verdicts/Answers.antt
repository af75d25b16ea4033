use Rattle.std.proofs.Common.{append_assoc}
use Rattle.cg_status.specs.Metrics.{verdict_lines}
use Rattle.cg_status.proofs.metrics.add_verdicts.Goals as goal

pub returns : goal.returns
unfolding verdict_lines
returns c = simp (c.in_ok-add_verdict-2.ensures, c.in_ok-add_verdict.ensures, c.in_ok-add_head.ensures, append_assoc) at c.add_verdict-3.ensures
