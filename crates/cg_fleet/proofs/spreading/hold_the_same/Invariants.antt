use Rattle.std.proofs.Common.{length}
use Rattle.cg_fleet.specs.Spreading.{HoldTheSame}
use Rattle.cg_fleet.proofs.spreading.hold_the_same.Given as goal

-- All hold the same exactly if those that are left do.
abbrev pub invariant-loop-node : goal.invariant-loop-node
invariant-loop-node l = record {
  forth : HoldTheSame l.first l.nodes → HoldTheSame l.first l.rest;
  back : HoldTheSame l.first l.rest → HoldTheSame l.first l.nodes;
}

abbrev pub decreases-loop-node : goal.decreases-loop-node
decreases-loop-node l = length l.rest
