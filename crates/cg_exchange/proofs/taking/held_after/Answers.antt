use Rattle.std.proofs.Common.{length, take, ap, arith}
use Rattle.std.specs.FinMap as table
use Rattle.std.proofs.lemmas.List.Sums.{count_by-le-length}
use Rattle.std.proofs.lemmas.List.{length-take-le}
use Rattle.cg_table.specs.Taking.{needs_room}
use Rattle.cg_messages.specs.declared.owner_delta.OwnerDelta.{OwnerDelta}
use Rattle.cg_exchange.proofs.taking.held_after.Goals as goal

pub loop-sent-init : goal.loop-sent-init
loop-sent-init c = omega (arith, ap length c.owners-owners.ensures.value, table.len-entries c.args.table.now.entries)

pub overflow_add-count : goal.overflow_add-count
overflow_add-count c =
    let entries = c.args.table.now.entries in
    let seen = take c.loop-sent.sent-index c.args.deltas.now in
    let few = count_by-le-length (λ (d : OwnerDelta). needs_room entries d.endpoint d.delta) seen in
    omega (arith, few, c.loop-sent.invariant, ap length c.owners-owners.ensures.value, table.len-entries entries, c.owners-owners.ensures.few, c.requires, length-take-le c.loop-sent.sent-index c.args.deltas.now)
