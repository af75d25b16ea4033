use Rattle.std.proofs.Common.{◌≤◌, ℕ, Option, Some, subst, sym}
use Rattle.std.specs.FinMap as table
use Rattle.cg_types.specs.declared.limits.TheConstants.{MEMBER_LIMIT}
use Rattle.cg_entry.specs.Values.{EntryValue}
use Rattle.cg_table.specs.Values.{TableValue}
use Rattle.cg_table.specs.Taking.{with_row}
use Rattle.cg_table.proofs.TableLemmas.{put_valid}
use Rattle.cg_table.proofs.HeldLemmas.{insert_held}
use Rattle.cg_table.proofs.table.Table.with_row.Goals as goal

pub invariant_of-result : goal.invariant_of-result
invariant_of-result c =
    let row : ℕ × EntryValue = c.in-Some.row in
    let asked = subst (λ (row : Option (ℕ × EntryValue)). table.len (with_row row c.args.self.now.entries) ≤ MEMBER_LIMIT) c.in-Some.is c.requires in
    let few = subst (λ (t : TableValue). table.len (with_row (Some row) t.entries) ≤ MEMBER_LIMIT) (sym c.self.view_is) asked in
    rw c.in_ok-put_row.ensures (
      put_valid c.self.inside.own c.self.inside.entries row.0 row.1 c.self.invariant.0 few,
      insert_held c.self.inside.entries row.0 row.1 c.self.invariant.1 c.show.ensures,
    )
