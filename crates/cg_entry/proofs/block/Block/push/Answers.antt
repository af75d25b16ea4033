use Rattle.std.proofs.Common.{length, ap, arith, List}
use Rattle.cg_entry.specs.declared.state.State.{State}
use Rattle.cg_entry.proofs.BlockLemmas.{bumped_few}
use Rattle.cg_entry.proofs.PushLemmas.{pushed}
use Rattle.cg_entry.proofs.block.Block.push.Goals as goal

pub overflow_cast-at : goal.overflow_cast-at
overflow_cast-at c =
    let p = pushed c.deref.result.now c.self.inside.items.items c.self.inside.places c.self.inside.text_bytes c.first_above-at.result c.get.result c.args.state c.args.self.now c.self.invariant c.self.view_is c.deref.ensures.value c.get.ensures.value c.first_above-at.ensures.within c.first_above-at.ensures.older c.first_above-at.ensures.newer c.show.ensures c.requires in
    omega (arith, p.within, p.few)

pub overflow_cast-count : goal.overflow_cast-count
overflow_cast-count c =
    let p = pushed c.deref.result.now c.self.inside.items.items c.self.inside.places c.self.inside.text_bytes c.first_above-at.result c.get.result c.args.state c.args.self.now c.self.invariant c.self.view_is c.deref.ensures.value c.get.ensures.value c.first_above-at.ensures.within c.first_above-at.ensures.older c.first_above-at.ensures.newer c.show.ensures c.requires in
    omega (arith, p.few, ap (λ (xs : List State). length xs) c.as_slice-count.ensures.value)

pub make_room-requires-clause-few : goal.make_room-requires-clause-few
make_room-requires-clause-few c =
    let p = pushed c.deref.result.now c.self.inside.items.items c.self.inside.places c.self.inside.text_bytes c.first_above-at.result c.get.result c.args.state c.args.self.now c.self.invariant c.self.view_is c.deref.ensures.value c.get.ensures.value c.first_above-at.ensures.within c.first_above-at.ensures.older c.first_above-at.ensures.newer c.show.ensures c.requires in
    omega (arith, p.few, ap (λ (xs : List State). length xs) c.as_slice-count.ensures.value)

pub make_room-requires-clause-within : goal.make_room-requires-clause-within
make_room-requires-clause-within c = rw c.as_slice-count.ensures.value c.self.invariant.within

pub overflow_cast-at-2 : goal.overflow_cast-at-2
overflow_cast-at-2 c =
    let p = pushed c.deref.result.now c.self.inside.items.items c.self.inside.places c.self.inside.text_bytes c.first_above-at.result c.get.result c.args.state c.args.self.now c.self.invariant c.self.view_is c.deref.ensures.value c.get.ensures.value c.first_above-at.ensures.within c.first_above-at.ensures.older c.first_above-at.ensures.newer c.show.ensures c.requires in
    omega (arith, p.within, p.few)

pub push-requires : goal.push-requires
push-requires c =
    let p = pushed c.deref.result.now c.self.inside.items.items c.self.inside.places c.self.inside.text_bytes c.first_above-at.result c.get.result c.args.state c.args.self.now c.self.invariant c.self.view_is c.deref.ensures.value c.get.ensures.value c.first_above-at.ensures.within c.first_above-at.ensures.older c.first_above-at.ensures.newer c.show.ensures c.requires in
    omega (arith, p.few_places, ap length c.make_room.ensures, bumped_few c.first_above-at.result c.self.inside.places)

pub overflow_add-self : goal.overflow_add-self
overflow_add-self c =
    let p = pushed c.deref.result.now c.self.inside.items.items c.self.inside.places c.self.inside.text_bytes c.first_above-at.result c.get.result c.args.state c.args.self.now c.self.invariant c.self.view_is c.deref.ensures.value c.get.ensures.value c.first_above-at.ensures.within c.first_above-at.ensures.older c.first_above-at.ensures.newer c.show.ensures c.requires in
    omega (arith, p.few_bytes, c.text_size-size.ensures)

pub invariant_of-self-2 : goal.invariant_of-self-2
invariant_of-self-2 c =
    let p = pushed c.deref.result.now c.self.inside.items.items c.self.inside.places c.self.inside.text_bytes c.first_above-at.result c.get.result c.args.state c.args.self.now c.self.invariant c.self.view_is c.deref.ensures.value c.get.ensures.value c.first_above-at.ensures.within c.first_above-at.ensures.older c.first_above-at.ensures.newer c.show.ensures c.requires in
    rw (c.in_ok-insert.ensures.items, c.push.ensures, c.make_room.ensures, c.text_size-size.ensures) p.block

pub returns-clause-ok : goal.returns-clause-ok
returns-clause-ok c =
    let p = pushed c.deref.result.now c.self.inside.items.items c.self.inside.places c.self.inside.text_bytes c.first_above-at.result c.get.result c.args.state c.args.self.now c.self.invariant c.self.view_is c.deref.ensures.value c.get.ensures.value c.first_above-at.ensures.within c.first_above-at.ensures.older c.first_above-at.ensures.newer c.show.ensures c.requires in
    rw (c.in_ok-insert.ensures.items, c.push.ensures, c.make_room.ensures) p.view
