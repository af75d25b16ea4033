use Rattle.std.proofs.Common.{◌≤◌, subst, sym}
use Rattle.std.specs.FinMap as table
use Rattle.cg_types.specs.declared.limits.TheConstants.{MEMBER_LIMIT}
use Rattle.cg_types.specs.Map.{put_each}
use Rattle.cg_table.specs.Values.{TableValue}
use Rattle.cg_table.proofs.HeldLemmas.{put_each_held}
use Rattle.cg_table.proofs.RoomLemmas.{put_each_valid}
use Rattle.cg_table.proofs.table.Table.put_rows.Goals as goal

pub invariant_of-result : goal.invariant_of-result
invariant_of-result c =
    let few = subst (λ (t : TableValue). table.len (put_each c.args.changes.items t.entries) ≤ MEMBER_LIMIT) (sym c.self.view_is) c.requires.room in
    rw c.in_ok-put_rows.ensures (
      put_each_valid c.self.inside.own c.self.inside.entries c.args.changes.items c.self.invariant.0 few,
      put_each_held c.args.changes.items c.self.inside.entries (rw (← c.deref.ensures.value) c.show_all.ensures) c.self.invariant.1,
    )
