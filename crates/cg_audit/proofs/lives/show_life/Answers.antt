use Rattle.cg_audit.proofs.StartLemmas.{life_of_base}
use Rattle.cg_audit.proofs.lives.show_life.Goals as goal

pub returns : goal.returns
returns c = life_of_base c.args.endpoint c.args.history.now c.show.ensures c.requires
