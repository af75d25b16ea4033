use Rattle.std.proofs.Common.{◌≡◌, ◌+◌, ◌<◌, ◌∙◌, ℕ, List, length, get_or, drop, IfSome, refl, sym, ap, subst, arith}
use Rattle.std.specs.Arc.{arc_value}
use Rattle.std.proofs.lemmas.List.{set-get_or}
use Rattle.std.proofs.Math.ListN.{set}
use Rattle.cg_entry.specs.declared.state.State.{State}
use Rattle.cg_entry.specs.Entry.{text_size}
use Rattle.cg_entry.specs.Block.{state_at}
use Rattle.cg_entry.specs.Section.{StandsIn}
use Rattle.cg_entry.proofs.BlockLemmas.{each_at, read_at}
use Rattle.cg_entry.proofs.SectionLemmas.{text_stands, state_within, goes_on}
use Rattle.cg_entry.proofs.block.gather.Goals as goal

pub share-requires-clause-stands : goal.share-requires-clause-stands
share-requires-clause-stands c =
    let items : List State = c.args.items.now.items in
    let i = c.loop-place.place-index in
    let p : ℕ = get_or c.args.places.now i 0 in
    let within : p < length items = each_at (λ (q : ℕ). q < length items) c.args.places.now i 0 c.requires.within c.loop-place-test.true in
    let here : state_at items p ≡ c.index_mut.result.now = read_at items p p c.index_mut.result.now (c.index_mut.ensures.value ∙ ap (λ (xs : List State). get_or xs p c.index_mut.result.now) c.loop-place.invariant.0) refl within in
    subst (λ (s : State). IfSome s.text (λ t. StandsIn (arc_value c.args.section.now).items (c.loop-place.at + 7) t)) here
    (text_stands (arc_value c.args.section.now).items items c.args.places.now i c.loop-place.at c.loop-place-test.true c.loop-place.invariant.1)

pub overflow_add-at : goal.overflow_add-at
overflow_add-at c =
    let items : List State = c.args.items.now.items in
    let i = c.loop-place.place-index in
    let p : ℕ = get_or c.args.places.now i 0 in
    let within : p < length items = each_at (λ (q : ℕ). q < length items) c.args.places.now i 0 c.requires.within c.loop-place-test.true in
    let here : state_at items p ≡ c.index_mut.result.now = read_at items p p c.index_mut.result.now (c.index_mut.ensures.value ∙ ap (λ (xs : List State). get_or xs p c.index_mut.result.now) c.loop-place.invariant.0) refl within in
    let size : c.in_ok-at.field-0 ≡ 7 + text_size (state_at items p).text = c.in_ok-at.ensures.size ∙ ap (λ (s : State). 7 + text_size s.text) (sym here) in
    omega (arith, size, state_within (arc_value c.args.section.now).items items c.args.places.now i c.loop-place.at c.loop-place-test.true c.loop-place.invariant.1, c.requires.short)

pub loop-place-preserved : goal.loop-place-preserved
loop-place-preserved c =
    let items : List State = c.args.items.now.items in
    let now : List State = c.loop-place.items.items in
    let i = c.loop-place.place-index in
    let p : ℕ = get_or c.args.places.now i 0 in
    let within : p < length items = each_at (λ (q : ℕ). q < length items) c.args.places.now i 0 c.requires.within c.loop-place-test.true in
    let here : state_at items p ≡ c.index_mut.result.now = read_at items p p c.index_mut.result.now (c.index_mut.ensures.value ∙ ap (λ (xs : List State). get_or xs p c.index_mut.result.now) c.loop-place.invariant.0) refl within in
    let size : c.in_ok-at.field-0 ≡ 7 + text_size (state_at items p).text = c.in_ok-at.ensures.size ∙ ap (λ (s : State). 7 + text_size s.text) (sym here) in
    let same : set now p c.share.new.state ≡ now = ap (set now p) (c.share.ensures.same ∙ c.index_mut.ensures.value) ∙ set-get_or now p c.index_mut.result.now in (
      same ∙ c.loop-place.invariant.0,
      ap (λ (n : ℕ). drop (c.loop-place.at + n) (arc_value c.args.section.now).items) size
          ∙ goes_on (arc_value c.args.section.now).items items c.args.places.now i c.loop-place.at c.loop-place-test.true c.loop-place.invariant.1,
    )
