use Rattle.cg_types.proofs.RisingLemmas.{from_sorted-none}
use Rattle.cg_entry.proofs.block.Block.empty.Goals as goal

pub returns : goal.returns
returns c = rw (c.none.ensures) from_sorted-none
