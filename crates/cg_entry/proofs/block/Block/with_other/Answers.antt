use Rattle.std.proofs.Common.{◌≡◌, ◌∙◌, length, get_or, ap, arith, List}
use Rattle.cg_entry.specs.declared.state.State.{State}
use Rattle.cg_entry.specs.Entry.{text_size}
use Rattle.cg_entry.specs.Block.{state_at}
use Rattle.cg_entry.proofs.NewestLemmas.{replaced, replace_room, old_bytes}
use Rattle.cg_entry.proofs.block.Block.with_other.Goals as goal

pub overflow_sub-last : goal.overflow_sub-last
overflow_sub-last c =
    let r = replace_room c.self.inside.items.items c.self.inside.places c.self.inside.text_bytes c.args.number c.args.state c.args.self.now c.self.invariant c.self.view_is c.show.ensures c.requires.newest c.requires.row in
    omega (arith, r.1, ap (λ (xs : List State). length xs) c.as_slice.ensures.value)

pub bounds-as_slice-number : goal.bounds-as_slice-number
bounds-as_slice-number c =
    let r = replace_room c.self.inside.items.items c.self.inside.places c.self.inside.text_bytes c.args.number c.args.state c.args.self.now c.self.invariant c.self.view_is c.show.ensures c.requires.newest c.requires.row in
    omega (arith, r.0, ap length c.as_slice-2.ensures.value)

pub other_copies-requires : goal.other_copies-requires
other_copies-requires c =
    let r = replace_room c.self.inside.items.items c.self.inside.places c.self.inside.text_bytes c.args.number c.args.state c.args.self.now c.self.invariant c.self.view_is c.show.ensures c.requires.newest c.requires.row in
    rw (c.deref-2.ensures.value, c.as_slice-2.ensures.value) r.1

pub overflow_cast-last : goal.overflow_cast-last
overflow_cast-last c =
    let r = replace_room c.self.inside.items.items c.self.inside.places c.self.inside.text_bytes c.args.number c.args.state c.args.self.now c.self.invariant c.self.view_is c.show.ensures c.requires.newest c.requires.row in
    rw c.as_slice.ensures.value (omega (arith, r.2, r.3))

pub moved-requires : goal.moved-requires
moved-requires c =
    (replace_room c.self.inside.items.items c.self.inside.places c.self.inside.text_bytes c.args.number c.args.state c.args.self.now c.self.invariant c.self.view_is c.show.ensures c.requires.newest c.requires.row).0

pub overflow_sub-result : goal.overflow_sub-result
overflow_sub-result c =
    let size : c.size_at-old.result ≡ text_size (state_at c.self.inside.items.items (get_or c.self.inside.places c.args.number 0)).text = c.size_at-old.ensures ∙ (λ i. text_size (state_at (c.deref.ensures.value i) (get_or (c.as_slice-2.ensures.value i) c.args.number 0)).text) in
    omega (arith, size, old_bytes c.self.inside.items.items c.self.inside.places c.self.inside.text_bytes c.args.number c.args.state c.args.self.now c.self.invariant c.self.view_is c.show.ensures c.requires.newest c.requires.row)

pub overflow_add-result : goal.overflow_add-result
overflow_add-result c =
    let p = replaced c.self.inside.items.items c.self.inside.places c.self.inside.text_bytes c.args.number c.args.state c.args.self.now c.self.invariant c.self.view_is c.show.ensures c.requires.newest c.requires.row in
    let size : c.size_at-old.result ≡ text_size (state_at c.self.inside.items.items (get_or c.self.inside.places c.args.number 0)).text = c.size_at-old.ensures ∙ (λ i. text_size (state_at (c.deref.ensures.value i) (get_or (c.as_slice-2.ensures.value i) c.args.number 0)).text) in
    omega (arith, size, c.text_size-size.ensures, p.few_bytes)

pub invariant_of-result : goal.invariant_of-result
invariant_of-result c =
    let r = replace_room c.self.inside.items.items c.self.inside.places c.self.inside.text_bytes c.args.number c.args.state c.args.self.now c.self.invariant c.self.view_is c.show.ensures c.requires.newest c.requires.row in
    let p = replaced c.self.inside.items.items c.self.inside.places c.self.inside.text_bytes c.args.number c.args.state c.args.self.now c.self.invariant c.self.view_is c.show.ensures c.requires.newest c.requires.row in
    let size : c.size_at-old.result ≡ text_size (state_at c.self.inside.items.items (get_or c.self.inside.places c.args.number 0)).text = c.size_at-old.ensures ∙ (λ i. text_size (state_at (c.deref.ensures.value i) (get_or (c.as_slice-2.ensures.value i) c.args.number 0)).text) in
    rw (c.in_ok-push.ensures.items, c.moved.ensures, c.as_slice.ensures.value, c.in_ok-items.ensures, c.deref-2.ensures.value, c.as_slice-2.ensures.value, r.3, size, c.text_size-size.ensures) p.block

pub returns : goal.returns
returns c =
    let r = replace_room c.self.inside.items.items c.self.inside.places c.self.inside.text_bytes c.args.number c.args.state c.args.self.now c.self.invariant c.self.view_is c.show.ensures c.requires.newest c.requires.row in
    let p = replaced c.self.inside.items.items c.self.inside.places c.self.inside.text_bytes c.args.number c.args.state c.args.self.now c.self.invariant c.self.view_is c.show.ensures c.requires.newest c.requires.row in
    rw (c.in_ok-push.ensures.items, c.moved.ensures, c.as_slice.ensures.value, c.in_ok-items.ensures, c.deref-2.ensures.value, c.as_slice-2.ensures.value, r.3) p.view
