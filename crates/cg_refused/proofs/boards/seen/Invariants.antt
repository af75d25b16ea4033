use Rattle.std.proofs.Common.{true}
use Rattle.cg_refused.proofs.boards.seen.Given as goal

abbrev pub ghosts-seen_by-N-Ledger : goal.ghosts-seen_by-N-Ledger
ghosts-seen_by-N-Ledger g a = record { name = a.fresh.name; parts = a.fresh.parts }

abbrev pub ghosts-seen_by-N-Naming : goal.ghosts-seen_by-N-Naming
ghosts-seen_by-N-Naming g a = record { book = a.opened; opening = a.table }

abbrev pub ghosts-seen_by-N-Name : goal.ghosts-seen_by-N-Name
ghosts-seen_by-N-Name g a = record { log = a.fresh.log; start = a.history.base; folds = true }
