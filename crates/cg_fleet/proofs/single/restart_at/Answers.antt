use Rattle.std.proofs.Common.{arith}
use Rattle.cg_fleet.proofs.StartLemmas.{restarts_by}
use Rattle.cg_fleet.proofs.single.restart_at.Goals as goal

pub returns-clause-restarted : goal.returns-clause-restarted
returns-clause-restarted c =
    restarts_by c.args.settings.now c.args.place c.from-at.result c.generation.result c.args.nodes.now c.index-nodes-at.result
    c.in_ok-node.node c.requires c.from-at.ensures c.index-nodes-at.is c.in_ok-node.ensures
    (grind (arith, c.generation.ensures, c.get.ensures.value, c.generation-last.ensures, c.own_entry.ensures, c.table.ensures))
