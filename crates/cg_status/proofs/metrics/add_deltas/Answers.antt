use Rattle.std.proofs.Common.{append_assoc}
use Rattle.cg_status.specs.Metrics.{delta_lines}
use Rattle.cg_status.proofs.metrics.add_deltas.Goals as goal

pub returns : goal.returns
unfolding delta_lines
returns c = simp (c.in_ok-add_counter-3.ensures, c.in_ok-add_counter-2.ensures, c.in_ok-add_counter.ensures, append_assoc) at c.add_counter-4.ensures
