use Rattle.std.proofs.Common.{subst}
use Rattle.cg_entry.specs.Block.{picked}
use Rattle.cg_entry.specs.Contents.{AreStates}
use Rattle.cg_entry.proofs.StateLemmas.{entries-pairs}
use Rattle.cg_entry.proofs.block.BlockShows.show.Goals as goal

pub returns : goal.returns
returns c = subst AreStates c.self.view_is (rw (entries-pairs (picked c.self.inside.items.items c.self.inside.places) c.self.invariant.rise) c.self.invariant.valid)
