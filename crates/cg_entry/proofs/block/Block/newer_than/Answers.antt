use Rattle.std.proofs.Common.{◌≡◌, ◌∙◌, length, ap, arith, List, drop}
use Rattle.cg_entry.specs.declared.state.State.{State}
use Rattle.cg_entry.proofs.BlockLemmas.{rest_from}
use Rattle.cg_entry.proofs.CutLemmas.{cut_at}
use Rattle.cg_entry.proofs.block.Block.newer_than.Goals as goal

pub overflow_cast-from : goal.overflow_cast-from
overflow_cast-from c =
    let cut = cut_at c.deref.result.now c.self.inside.items.items c.self.inside.places c.self.inside.text_bytes c.args.above c.first_above-from.result c.args.self.now c.self.invariant c.self.view_is c.deref.ensures.value c.first_above-from.ensures.older c.first_above-from.ensures.newer in
    omega (arith, cut.small, c.first_above-from.ensures.within, ap (λ (xs : List State). length xs) c.deref.ensures.value)

pub size_of-text_bytes-requires : goal.size_of-text_bytes-requires
size_of-text_bytes-requires c =
    let cut = cut_at c.deref.result.now c.self.inside.items.items c.self.inside.places c.self.inside.text_bytes c.args.above c.first_above-from.result c.args.self.now c.self.invariant c.self.view_is c.deref.ensures.value c.first_above-from.ensures.older c.first_above-from.ensures.newer in
    let tail : c.in_ok-items.items.items ≡ drop c.first_above-from.result c.self.inside.items.items = c.in_ok-items.ensures ∙ rest_from c.deref-2.result.now c.first_above-from.result ∙ ap (λ (xs : List State). drop c.first_above-from.result xs) c.deref-2.ensures.value in
    rw (c.deref-3.ensures.value, tail, c.as_slice.ensures.value, c.lowered-places.ensures) cut.few

pub invariant_of-result : goal.invariant_of-result
invariant_of-result c =
    let cut = cut_at c.deref.result.now c.self.inside.items.items c.self.inside.places c.self.inside.text_bytes c.args.above c.first_above-from.result c.args.self.now c.self.invariant c.self.view_is c.deref.ensures.value c.first_above-from.ensures.older c.first_above-from.ensures.newer in
    let tail : c.in_ok-items.items.items ≡ drop c.first_above-from.result c.self.inside.items.items = c.in_ok-items.ensures ∙ rest_from c.deref-2.result.now c.first_above-from.result ∙ ap (λ (xs : List State). drop c.first_above-from.result xs) c.deref-2.ensures.value in
    rw (c.size_of-text_bytes.ensures, c.deref-3.ensures.value, tail, c.as_slice.ensures.value, c.lowered-places.ensures) cut.block

pub returns : goal.returns
returns c =
    let cut = cut_at c.deref.result.now c.self.inside.items.items c.self.inside.places c.self.inside.text_bytes c.args.above c.first_above-from.result c.args.self.now c.self.invariant c.self.view_is c.deref.ensures.value c.first_above-from.ensures.older c.first_above-from.ensures.newer in
    let tail : c.in_ok-items.items.items ≡ drop c.first_above-from.result c.self.inside.items.items = c.in_ok-items.ensures ∙ rest_from c.deref-2.result.now c.first_above-from.result ∙ ap (λ (xs : List State). drop c.first_above-from.result xs) c.deref-2.ensures.value in
    rw (tail, c.lowered-places.ensures) cut.view
