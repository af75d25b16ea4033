use Rattle.std.proofs.Common.{ap}
use Rattle.cg_history.specs.History.{HistoryValue}
use Rattle.cg_serve.proofs.Leaving.{left_by_run}
use Rattle.cg_serve.proofs.node.run.Goals as goal

pub returns-clause-left : goal.returns-clause-left
returns-clause-left g c =
    let base = ap (λ (h : HistoryValue). h.base) c.in_ok-history.ensures in
    rw base at (left_by_run _ _ c.run_node.result c.run_node.ensures.ran c.run_node.ensures.not c.left_of.result c.left_of.ensures)
