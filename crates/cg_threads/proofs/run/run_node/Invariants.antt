use Rattle.std.proofs.Common.{false}
use Rattle.cg_threads.proofs.run.run_node.Given as goal

abbrev pub ghosts-run_named-N-Ledger : goal.ghosts-run_named-N-Ledger
ghosts-run_named-N-Ledger g a = record { name = a.fresh.name; parts = a.fresh.parts }

abbrev pub ghosts-run_named-N-Naming : goal.ghosts-run_named-N-Naming
ghosts-run_named-N-Naming g a = record { book = a.opened; opening = a.table }

abbrev pub ghosts-run_named-N-Name : goal.ghosts-run_named-N-Name
ghosts-run_named-N-Name g a = record { log = a.fresh.log; start = a.history.base; folds = false }
