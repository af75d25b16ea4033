use Rattle.cg_world.proofs.ActingLemmas.{reached_by, consistent_reached}
use Rattle.cg_world.proofs.world.World.act.Goals as goal

pub invariant_of-self : goal.invariant_of-self
invariant_of-self c = reached_by c.self.inside.nodes c.act.new.self c.args.action.now c.act.result c.self.invariant c.act.ensures.done c.act.ensures.err

pub returns-clause-consistent : goal.returns-clause-consistent
returns-clause-consistent c =
    consistent_reached c.act.new.self (reached_by c.self.inside.nodes c.act.new.self c.args.action.now c.act.result c.self.invariant c.act.ensures.done c.act.ensures.err)
