use Rattle.std.proofs.Common.{true}
use Rattle.cg_locked_bench.proofs.ahead.measure_ahead.Given as goal

abbrev pub ghosts-records_by-N-Ledger : goal.ghosts-records_by-N-Ledger
ghosts-records_by-N-Ledger g a = record { name = a.fresh.name; parts = a.fresh.parts }

abbrev pub ghosts-records_by-N-Naming : goal.ghosts-records_by-N-Naming
ghosts-records_by-N-Naming g a = record { book = a.opened; opening = a.table }

abbrev pub ghosts-records_by-N-Name : goal.ghosts-records_by-N-Name
ghosts-records_by-N-Name g a = record { log = a.fresh.log; start = a.history.base; folds = true }
