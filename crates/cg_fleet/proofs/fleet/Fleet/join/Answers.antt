use Rattle.std.proofs.Common.{arith}
use Rattle.cg_fleet.proofs.StartLemmas.{joins_by}
use Rattle.cg_fleet.proofs.fleet.Fleet.join.Goals as goal

pub returns-clause-joined : goal.returns-clause-joined
returns-clause-joined c =
    joins_by c.args.self.now.settings c.args.self.now.nodes.items c.push-2.new.self.items c.in_ok-node.node c.in-Ok.place c.generation.result
    c.in_ok-node.ensures c.generation.ensures (grind (arith, c.in-Ok.ensures, c.len.ensures)) c.in_ok-push-2.ensures.items
