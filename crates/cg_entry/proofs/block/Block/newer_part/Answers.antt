use Rattle.std.proofs.Common.{◌≡◌, ℕ, List, Option, IfSome, Bor, sym, subst}
use Rattle.std.specs.List.{flat_map}
use Rattle.std.specs.FinMap.{entries}
use Rattle.cg_entry.specs.Section.{state}
use Rattle.cg_entry.proofs.CutLemmas.{cut_at}
use Rattle.cg_entry.proofs.ReadLemmas.{end_newer, last_newer, each_newer}
use Rattle.cg_entry.proofs.block.Block.newer_part.Goals as goal

pub returns-then-from-items : goal.returns-then-from-items
returns-then-from-items c =
    let cut = cut_at c.as_slice-items.result.now c.self.inside.items.items c.self.inside.places c.self.inside.text_bytes c.args.above c.first_above-from.result c.args.self.now c.self.invariant c.self.view_is c.as_slice-items.ensures.value c.first_above-from.ensures.older c.first_above-from.ensures.newer in
    sym (end_newer c.as_slice-items.result.now c.self.inside.items.items c.self.inside.places c.args.above c.first_above-from.result c.args.self.now cut c.as_slice-items.ensures.value c.if-from-items.true)

pub returns-in-Some : goal.returns-in-Some
returns-in-Some c =
    let cut = cut_at c.as_slice-items.result.now c.self.inside.items.items c.self.inside.places c.self.inside.text_bytes c.args.above c.first_above-from.result c.args.self.now c.self.invariant c.self.view_is c.as_slice-items.ensures.value c.first_above-from.ensures.older c.first_above-from.ensures.newer in
    (each_newer c.self.inside.items.items c.self.inside.places c.args.above c.first_above-from.result c.args.self.now cut c.self.view_is c.if-from-eq0.true, subst (λ (o : Option (Bor (List ℕ))). IfSome o (λ s. s.now ≡ flat_map state (entries c.args.self.now))) c.in-Some.is c.requires)

pub returns-then-from-items-2 : goal.returns-then-from-items-2
returns-then-from-items-2 c =
    let cut = cut_at c.as_slice-items.result.now c.self.inside.items.items c.self.inside.places c.self.inside.text_bytes c.args.above c.first_above-from.result c.args.self.now c.self.invariant c.self.view_is c.as_slice-items.ensures.value c.first_above-from.ensures.older c.first_above-from.ensures.newer in
    sym (last_newer c.as_slice-items.result.now c.self.inside.items.items c.self.inside.places c.args.above c.first_above-from.result c.index-items-from.result c.args.self.now cut c.as_slice-items.ensures.value c.if-from-items-2.true c.index-items-from.is)
