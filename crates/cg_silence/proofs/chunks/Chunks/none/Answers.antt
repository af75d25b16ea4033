use Rattle.cg_types.proofs.RisingLemmas.{from_sorted-none}
use Rattle.cg_silence.proofs.chunks.Chunks.none.Goals as goal

pub returns : goal.returns
returns c = rw c.new.ensures.items from_sorted-none
