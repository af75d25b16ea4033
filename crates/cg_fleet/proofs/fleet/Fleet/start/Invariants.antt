use Rattle.std.proofs.Common.{◌≡◌}
use Rattle.cg_fleet.specs.Starting.{HaveJoined, fleet_settings}
use Rattle.cg_fleet.proofs.fleet.Fleet.start.Given as goal

-- so many nodes have joined
abbrev pub invariant-loop-before : goal.invariant-loop-before
invariant-loop-before l = record {
  settings : l.fleet.settings ≡ fleet_settings;
  nodes : HaveJoined l._before fleet_settings l.fleet.nodes.items;
}
