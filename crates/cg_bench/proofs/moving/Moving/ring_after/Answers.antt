use Rattle.std.proofs.Common.{sym}
use Rattle.cg_bench.proofs.moving.Moving.ring_after.Goals as goal

pub moved-requires : goal.moved-requires
moved-requires c = (c.self.inside.table.entries, record { held_is = sym c.get.ensures; of_all = c.self.invariant })
