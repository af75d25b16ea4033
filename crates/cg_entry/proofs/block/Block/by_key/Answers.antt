use Rattle.std.proofs.Common.{◌∙◌, ℕ, List, ap, sym}
use Rattle.std.specs.FinMap as map
use Rattle.cg_entry.specs.declared.state.State.{State}
use Rattle.cg_entry.specs.State.{pairs}
use Rattle.cg_entry.specs.Block.{picked}
use Rattle.cg_entry.proofs.StateLemmas.{entries-pairs}
use Rattle.cg_entry.proofs.block.Block.by_key.Goals as goal

pub returns : goal.returns
returns c =
    c.picked.ensures ∙ ap (λ (xs : List State). pairs (picked xs c.as_slice.result.now)) c.deref.ensures.value
    ∙ ap (λ (ps : List ℕ). pairs (picked c.self.inside.items.items ps)) c.as_slice.ensures.value
    ∙ sym (entries-pairs (picked c.self.inside.items.items c.self.inside.places) c.self.invariant.rise) ∙ ap map.entries c.self.view_is
