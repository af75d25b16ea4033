use Rattle.std.proofs.Common.{ℕ, take, arith}
use Rattle.std.specs.Prelude.{not}
use Rattle.std.specs.FinMap as table
use Rattle.std.proofs.lemmas.List.Sums.{count_by-le-length}
use Rattle.std.proofs.lemmas.List.{length-take-le}
use Rattle.cg_entry.specs.Values.{EntryValue}
use Rattle.cg_table.proofs.table.Table.strangers.Goals as goal

pub overflow_add-count : goal.overflow_add-count
overflow_add-count c =
    let seen = take c.loop-row.row-index c.args.rows.now in
    let few = count_by-le-length (λ (r : ℕ × EntryValue). not (table.contains_key c.args.self.now.entries r.0)) seen in
    omega (arith, few, c.loop-row.invariant, c.loop-row-test.true, length-take-le c.loop-row.row-index c.args.rows.now)

pub returns-clause-few : goal.returns-clause-few
returns-clause-few c =
    let seen = take c.loop-row.row-index c.args.rows.now in
    let few = count_by-le-length (λ (r : ℕ × EntryValue). not (table.contains_key c.args.self.now.entries r.0)) seen in
    omega (arith, few, c.loop-row.invariant, length-take-le c.loop-row.row-index c.args.rows.now)
