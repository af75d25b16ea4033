use Rattle.std.proofs.Common.{◌∙◌, ap, length}
use Rattle.cg_entry.proofs.DeltaLemmas.{len-pairs}
use Rattle.cg_entry.proofs.states.States.len.Goals as goal

pub returns : goal.returns
returns c = ap length c.as_slice.ensures.value ∙ len-pairs c.self.inside.items.items c.args.self.now c.self.invariant.rise c.self.view_is
