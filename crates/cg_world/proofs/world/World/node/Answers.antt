use Rattle.std.proofs.Common.{subst}
use Rattle.cg_world.specs.WorldLaws.{IsReached}
use Rattle.cg_world.proofs.ActingLemmas.{consistent_reached}
use Rattle.cg_world.proofs.world.World.node.Goals as goal

pub returns-clause-consistent : goal.returns-clause-consistent
returns-clause-consistent c = consistent_reached c.args.self.now (subst IsReached c.self.view_is c.self.invariant)
