use Rattle.cg_tool.proofs.GatheredLemmas.{rise_either}
use Rattle.cg_tool.proofs.journals.Journals.add.Goals as goal

pub invariant_of-self : goal.invariant_of-self
invariant_of-self c = rise_either c.add_life.result c.self.inside.lives.items c.add_life.new.lives.items c.args.history c.self.invariant c.add_life.ensures.ok c.add_life.ensures.err
