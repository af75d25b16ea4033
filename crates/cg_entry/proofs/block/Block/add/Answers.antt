use Rattle.std.proofs.Common.{length, ap, arith, List}
use Rattle.cg_entry.specs.declared.state.State.{State}
use Rattle.cg_entry.proofs.NewestLemmas.{added, add_room}
use Rattle.cg_entry.proofs.block.Block.add.Goals as goal

pub overflow_cast-last : goal.overflow_cast-last
overflow_cast-last c =
    omega (arith, (add_room c.self.inside.items.items c.self.inside.places c.self.inside.text_bytes c.args.number c.args.state c.args.self c.self.invariant c.self.view_is c.show.ensures c.requires.newest c.requires.gap).0, ap (λ (xs : List State). length xs) c.as_slice-last.ensures.value)

pub with-requires-clause-few : goal.with-requires-clause-few
with-requires-clause-few c =
    omega (arith, (add_room c.self.inside.items.items c.self.inside.places c.self.inside.text_bytes c.args.number c.args.state c.args.self c.self.invariant c.self.view_is c.show.ensures c.requires.newest c.requires.gap).1)

pub with-requires-clause-within : goal.with-requires-clause-within
with-requires-clause-within c =
    (add_room c.self.inside.items.items c.self.inside.places c.self.inside.text_bytes c.args.number c.args.state c.args.self c.self.invariant c.self.view_is c.show.ensures c.requires.newest c.requires.gap).2

pub overflow_add-result : goal.overflow_add-result
overflow_add-result c =
    let p = added c.self.inside.items.items c.self.inside.places c.self.inside.text_bytes c.args.number c.args.state c.args.self c.self.invariant c.self.view_is c.show.ensures c.requires.newest c.requires.gap in
    omega (arith, p.few_bytes, c.text_size-size.ensures)

pub invariant_of-result : goal.invariant_of-result
invariant_of-result c =
    let p = added c.self.inside.items.items c.self.inside.places c.self.inside.text_bytes c.args.number c.args.state c.args.self c.self.invariant c.self.view_is c.show.ensures c.requires.newest c.requires.gap in
    rw (c.in_ok-push.ensures.items, c.with.ensures, c.as_slice-last.ensures.value, c.text_size-size.ensures) p.block

pub returns : goal.returns
returns c =
    let p = added c.self.inside.items.items c.self.inside.places c.self.inside.text_bytes c.args.number c.args.state c.args.self c.self.invariant c.self.view_is c.show.ensures c.requires.newest c.requires.gap in
    rw (c.in_ok-push.ensures.items, c.with.ensures, c.as_slice-last.ensures.value) p.view
