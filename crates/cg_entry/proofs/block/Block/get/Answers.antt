use Rattle.std.proofs.Common.{◌∙◌, sym, ap}
use Rattle.std.specs.FinMap as map
use Rattle.std.specs.FinMap.Entries.{find as find_entry}
use Rattle.std.specs.Ordering.{nat_cmp}
use Rattle.cg_entry.specs.Versioned.{States}
use Rattle.cg_entry.specs.State.{pairs}
use Rattle.cg_entry.proofs.StateLemmas.{pairs_rise}
use Rattle.cg_types.proofs.RisingLemmas.{get_rising}
use Rattle.cg_entry.specs.Block.{picked}
use Rattle.cg_entry.proofs.block.Block.get.Goals as goal

pub returns-clause-value : goal.returns-clause-value
returns-clause-value c =
    let rows = picked c.self.inside.items.items c.self.inside.places in
    c.find.ensures.value ∙ (λ i. find_entry nat_cmp c.args.key (pairs (picked (c.deref.ensures.value i) (c.as_slice.ensures.value i))))
    ∙ sym (get_rising (pairs rows) c.args.key (pairs_rise rows c.self.invariant.rise)) ∙ ap (λ (m : States). map.get m c.args.key) c.self.view_is
