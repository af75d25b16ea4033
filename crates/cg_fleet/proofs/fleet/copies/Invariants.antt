use Rattle.std.proofs.Common.{◌≡◌, take}
use Rattle.cg_fleet.proofs.fleet.copies.Given as goal

-- the nodes so far
abbrev pub invariant-loop-node : goal.invariant-loop-node
invariant-loop-node l = l.copies.items ≡ take l.node-index l.nodes
