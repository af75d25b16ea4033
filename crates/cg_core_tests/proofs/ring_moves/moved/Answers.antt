use Rattle.std.proofs.Common.{sym}
use Rattle.cg_core_tests.proofs.ring_moves.moved.Goals as goal

pub moved-requires : goal.moved-requires
moved-requires c = (c.args.before.now.entries, record { held_is = sym c.get-2.ensures; of_all = c.in_ok-ring.ensures })
