use Rattle.cg_types.proofs.RisingLemmas.{from_sorted-none}
use Rattle.cg_types.proofs.map.SharedMap.new.Goals as goal

pub returns : goal.returns
returns g c = rw c.new.ensures.items from_sorted-none
