use Rattle.std.proofs.Common.{arith}
use Rattle.cg_entry.proofs.FewLemmas.{entries_few}
use Rattle.cg_entry.proofs.delta.Delta.put.Goals as goal

pub put_head-requires : goal.put_head-requires
put_head-requires c =
    omega (arith, c.count.ensures.value, entries_few c.args.self.now.states c.count.ensures.valid.states)
