use Rattle.cg_entry.proofs.OrderLemmas.{take_range}
use Rattle.cg_entry.proofs.places.Places.first.Goals as goal

pub returns : goal.returns
returns c = take_range 0 16 c.args.count c.requires
