use Rattle.std.proofs.Common.{◌≡◌, drop}
use Rattle.cg_history.specs.History.{node_after}
use Rattle.cg_history.proofs.history.History.node_after.Given as goal

abbrev pub invariant-loop-item : goal.invariant-loop-item
invariant-loop-item l = node_after l.node (drop l.item-index l.item-items) ≡ node_after l.self.base l.item-items
