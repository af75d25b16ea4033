use Rattle.std.proofs.Common.{◌≡◌, ◌∙◌, length, sym, ap, refl, arith}
use Rattle.std.specs.Arc.{arc_value}
use Rattle.std.specs.List.{flat_map}
use Rattle.cg_entry.specs.State.{pairs}
use Rattle.cg_entry.specs.Block.{picked}
use Rattle.cg_entry.specs.Section.{state}
use Rattle.std.specs.FinMap as map
use Rattle.cg_entry.proofs.BlockLemmas.{rows_of}
use Rattle.cg_entry.proofs.SectionLemmas.{states_short}
use Rattle.cg_entry.proofs.block.Block.gathered.Goals as goal

pub gather-requires-clause-spelled : goal.gather-requires-clause-spelled
gather-requires-clause-spelled c =
    let xs = c.self.inside.items.items in
    let same : pairs (picked xs c.as_slice.result.now) ≡ map.entries c.args.self = rows_of xs xs c.as_slice.result.now c.self.inside.places c.args.self refl c.as_slice.ensures.value c.self.invariant.rise c.self.view_is in
    c.requires ∙ ap (flat_map state) (sym same)

pub gather-requires-clause-short : goal.gather-requires-clause-short
gather-requires-clause-short c =
    let xs = c.self.inside.items.items in
    let same : pairs (picked xs c.self.inside.places) ≡ map.entries c.args.self = rows_of xs xs c.self.inside.places c.self.inside.places c.args.self refl refl c.self.invariant.rise c.self.view_is in
    let whole : (arc_value c.args.section.now).items ≡ flat_map state (pairs (picked xs c.self.inside.places)) = c.requires ∙ ap (flat_map state) (sym same) in
    omega (arith, ap length whole, states_short (picked xs c.self.inside.places) c.self.invariant.rise c.self.invariant.valid)
