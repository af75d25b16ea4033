use Rattle.cg_entry.proofs.OverlayLemmas.{laid_over_vector}
use Rattle.cg_entry.proofs.block.Block.as_slice.Goals as goal

pub returns : goal.returns
returns c = laid_over_vector c.deref.result.now c.self.inside.items.items c.self.inside.places c.self.inside.text_bytes c.args.self.now c.self.invariant c.self.view_is c.deref.ensures.value
