use Rattle.std.proofs.Common.{◌∙◌}
use Rattle.cg_fleet.specs.Starting.{fleet_settings}
use Rattle.cg_fleet.proofs.StartLemmas.{joined_on}
use Rattle.cg_fleet.proofs.fleet.Fleet.start.Goals as goal

pub loop-before-preserved : goal.loop-before-preserved
loop-before-preserved c = record {
  settings = c.in_ok-join.ensures.settings ∙ c.loop-before.invariant.settings;
  nodes =
      joined_on fleet_settings c.loop-before.fleet.settings c.loop-before._before c.loop-before.fleet.nodes.items c.join.new.self.nodes.items
      c.loop-before.invariant.nodes c.loop-before.invariant.settings c.in_ok-join.ensures.joined;
}
