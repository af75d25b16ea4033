use Rattle.std.proofs.Common.{◌∙◌, length, ap}
use Rattle.cg_entry.proofs.BlockLemmas.{len-picked}
use Rattle.cg_entry.proofs.block.Block.len.Goals as goal

pub returns : goal.returns
returns c = ap length c.as_slice.ensures.value ∙ len-picked c.self.inside.items.items c.self.inside.places c.args.self.now c.self.invariant.rise c.self.view_is
