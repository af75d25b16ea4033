use Rattle.std.proofs.Common.{◌≡◌, ◌+◌, ◌≤◌, ℕ, false, Option, ap, subst, sym, ◌∙◌, arith, nat_lt}
use Rattle.std.specs.FinMap as table
use Rattle.cg_types.specs.declared.limits.TheConstants.{MEMBER_LIMIT}
use Rattle.cg_entry.specs.Values.{EntryValue}
use Rattle.cg_table.specs.Taking.{Change, with_row, needs_room, is_full_for}
use Rattle.cg_table.proofs.TableLemmas.{room_after, within_room, needs_none}
use Rattle.cg_table.proofs.table.Table.put_delta.Goals.{else-needs_room-via-then-needs_room+else-held-gt-MEMBER_LIMIT, else-needs_room-via-else-needs_room}
use Rattle.cg_table.proofs.table.Table.put_delta.Goals as goal

pub with_row-requires : goal.with_row-requires
with_row-requires c =
    let row = ap (λ (x : Change). x.0) c.in_ok-row.ensures.value in
    let few : table.len c.args.self.now.entries ≤ MEMBER_LIMIT = omega (arith, c.len-held.ensures.value, c.len-held.ensures.few) in
    let room : is_full_for c.args.self.now.entries c.args.endpoint c.args.delta.now ≡ false =
    elim c.else-needs_room.branch [
      | else-needs_room-via-then-needs_room+else-held-gt-MEMBER_LIMIT w ↦ within_room (needs_room c.args.self.now.entries c.args.endpoint c.args.delta.now) (table.len c.args.self.now.entries + 1) (omega (arith, c.len-held.ensures.value, w.if-held-gt-MEMBER_LIMIT.false))
      | else-needs_room-via-else-needs_room w ↦ needs_none (needs_room c.args.self.now.entries c.args.endpoint c.args.delta.now) (nat_lt MEMBER_LIMIT (table.len c.args.self.now.entries + 1)) (sym c.needs_room.ensures ∙ w.if-needs_room.false)
    ] in
    subst (λ (o : Option (ℕ × EntryValue)). table.len (with_row o c.args.self.now.entries) ≤ MEMBER_LIMIT) (sym row) (room_after c.args.self.now c.args.endpoint c.args.delta.now few room)
