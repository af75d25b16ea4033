use Rattle.std.proofs.Common.{true}
use Rattle.cg_web_tests.proofs.nodes.left_after.Given as goal

abbrev pub ghosts-left_by-N-Ledger : goal.ghosts-left_by-N-Ledger
ghosts-left_by-N-Ledger g a = record { name = a.fresh.name; parts = a.fresh.parts }

abbrev pub ghosts-left_by-N-Naming : goal.ghosts-left_by-N-Naming
ghosts-left_by-N-Naming g a = record { book = a.opened; opening = a.table }

abbrev pub ghosts-left_by-N-Name : goal.ghosts-left_by-N-Name
ghosts-left_by-N-Name g a = record { log = a.fresh.log; start = a.history.base; folds = true }
