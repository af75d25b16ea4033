use Rattle.std.proofs.Common.{◌∙◌}
use Rattle.cg_entry.specs.Block.{picked}
use Rattle.cg_entry.proofs.FewLemmas.{bytes_listed}
use Rattle.cg_entry.proofs.block.Block.text_bytes.Goals as goal

pub returns : goal.returns
returns c = c.self.invariant.counted ∙ bytes_listed (picked c.self.inside.items.items c.self.inside.places) c.args.self.now c.self.invariant.rise c.self.view_is
