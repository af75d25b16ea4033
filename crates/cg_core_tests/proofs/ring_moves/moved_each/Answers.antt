use Rattle.cg_core_tests.proofs.ring_moves.moved_each.Goals as goal

pub moved_each-requires-clause-ring : goal.moved_each-requires-clause-ring
moved_each-requires-clause-ring c = (c.args.before.now.entries, c.in_ok-ring.ensures)
