use Rattle.std.proofs.Common.{arith}
use Rattle.std.proofs.lemmas.Bool.Decides.{nat_tests}
use Rattle.cg_table.proofs.RoomLemmas.{len-put_each-rising}
use Rattle.cg_table.proofs.table.Table.has_room_for.Goals as goal

pub returns : goal.returns
returns c =
    let grown = len-put_each-rising c.args.rows.now c.args.self.now.entries c.requires in
    grind (arith, nat_tests, grown, c.strangers.ensures.value, c.len.ensures.value, c.len.ensures.few)
