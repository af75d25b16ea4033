use Rattle.std.proofs.Common.{true}
use Rattle.cg_agent.proofs.running.run_agent.Given as goal

abbrev pub ghosts-run_named-N-Ledger : goal.ghosts-run_named-N-Ledger
ghosts-run_named-N-Ledger g a = record { name = a.fresh.name; parts = a.fresh.parts }

abbrev pub ghosts-run_named-N-Naming : goal.ghosts-run_named-N-Naming
ghosts-run_named-N-Naming g a = record { book = a.opened; opening = a.table }

abbrev pub ghosts-run_named-N-Name : goal.ghosts-run_named-N-Name
ghosts-run_named-N-Name g a = record { log = a.fresh.log; start = a.history.base; folds = true }
