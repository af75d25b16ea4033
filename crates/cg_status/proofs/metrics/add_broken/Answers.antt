use Rattle.std.proofs.Common.{append_assoc}
use Rattle.cg_status.specs.Metrics.{broken_lines}
use Rattle.cg_status.proofs.metrics.add_broken.Goals as goal

pub returns : goal.returns
unfolding broken_lines
returns c = simp (c.in_ok-add_head.ensures, append_assoc) at c.add_broken_each.ensures
