use Rattle.std.proofs.Common.{append_assoc}
use Rattle.cg_status.specs.Metrics.{left_lines}
use Rattle.cg_status.proofs.metrics.add_left.Goals as goal

pub returns : goal.returns
unfolding left_lines
returns c = simp (c.in_ok-add_head.ensures, c.from.ensures, append_assoc) at c.add_value.ensures
