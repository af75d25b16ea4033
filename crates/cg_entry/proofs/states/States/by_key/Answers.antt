use Rattle.std.proofs.Common.{◌∙◌, List, length, ap, sym, arith}
use Rattle.std.specs.FinMap as map
use Rattle.cg_entry.specs.declared.state.State.{State}
use Rattle.cg_entry.specs.State.{pairs}
use Rattle.cg_entry.specs.Contents.{IsState}
use Rattle.cg_entry.proofs.StateLemmas.{entries-pairs, pairs_rise}
use Rattle.cg_entry.proofs.FewLemmas.{states_few}
use Rattle.cg_entry.proofs.DeltaLemmas.{length-pairs}
use Rattle.cg_entry.proofs.states.States.by_key.Goals as goal

pub listed-requires : goal.listed-requires
listed-requires c =
    let few = states_few IsState (λ e is. is.key) (pairs c.self.inside.items.items) c.self.invariant.valid (pairs_rise c.self.inside.items.items c.self.invariant.rise) in
    omega (arith, few, length-pairs c.self.inside.items.items, ap (λ (xs : List State). length xs) c.deref.ensures.value)

pub returns : goal.returns
returns c =
    c.listed.ensures ∙ ap (λ (xs : List State). pairs xs) c.deref.ensures.value
    ∙ sym (entries-pairs c.self.inside.items.items c.self.invariant.rise) ∙ ap map.entries c.self.view_is
