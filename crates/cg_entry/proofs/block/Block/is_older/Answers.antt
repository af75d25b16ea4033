use Rattle.std.proofs.Common.{◌≡◌, ◌∙◌, ◌<◌, ◌-◌, length, get_or, subst, sym, ap, arith, List, eqb-true}
use Rattle.cg_entry.specs.declared.state.State.{State}
use Rattle.cg_entry.proofs.BlockLemmas.{read_at}
use Rattle.cg_entry.proofs.ReadLemmas.{all_older, is_less, older_than, some_of}
use Rattle.cg_entry.proofs.block.Block.is_older.Goals as goal

pub returns-then-is_empty : goal.returns-then-is_empty
returns-then-is_empty c = λ _.
    let none : length c.self.inside.items.items ≡ 0 = ap (λ (xs : List State). length xs) (sym c.as_slice-items.ensures.value) ∙ eqb-true (length c.as_slice-items.result.now) 0 (sym c.is_empty.ensures ∙ c.if-is_empty.true) in
    all_older c.self.inside.items.items c.self.inside.places c.self.inside.text_bytes c.args.version c.args.self.now c.self.invariant c.self.view_is (λ p lt. absurd (omega arith))

pub returns : goal.returns
returns c = λ yes.
    let some : 0 < length c.self.inside.items.items = some_of c.as_slice-items.result.now c.self.inside.items.items c.as_slice-items.ensures.value (sym c.is_empty.ensures ∙ c.if-is_empty.false) in
    let long : length c.as_slice-items.result.now ≡ length c.self.inside.items.items = ap (λ (xs : List State). length xs) c.as_slice-items.ensures.value in
    let here = read_at c.self.inside.items.items (length c.self.inside.items.items - 1) _ c.index-items-items.result (c.index-items-items.is ∙ ap (λ (xs : List State). get_or xs (length c.as_slice-items.result.now - 1) c.index-items-items.result) c.as_slice-items.ensures.value) (ap (λ n. n - 1) long) (omega arith) in
    let less = is_less _ _ (sym c.lt.ensures ∙ yes) in
    older_than c.self.inside.items.items c.self.inside.places c.self.inside.text_bytes c.args.version (length c.self.inside.items.items - 1) c.index-items-items.result c.args.self.now c.self.invariant c.self.view_is (omega arith) here
    (subst (λ (s : State). s.version < c.args.version) (sym c.index-items-items.is) less)
