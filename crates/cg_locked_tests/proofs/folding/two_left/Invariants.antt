use Rattle.std.proofs.Common.{true}
use Rattle.cg_locked_tests.proofs.folding.two_left.Given as goal

abbrev pub ghosts-left_by_two-N-Ledger : goal.ghosts-left_by_two-N-Ledger
ghosts-left_by_two-N-Ledger g a = record { name = a.fresh.name; parts = a.fresh.parts }

abbrev pub ghosts-left_by_two-N-Naming : goal.ghosts-left_by_two-N-Naming
ghosts-left_by_two-N-Naming g a = record { book = a.opened; opening = a.table }

abbrev pub ghosts-left_by_two-N-Name : goal.ghosts-left_by_two-N-Name
ghosts-left_by_two-N-Name g a = record { log = a.fresh.log; start = a.history.base; folds = true }
