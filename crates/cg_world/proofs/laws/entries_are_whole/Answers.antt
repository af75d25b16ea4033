use Rattle.cg_world.proofs.WholeEntries.{entries_are_whole}
use Rattle.cg_world.proofs.laws.entries_are_whole.Goals as goal

pub returns : goal.returns
returns c = entries_are_whole
