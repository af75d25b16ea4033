use Rattle.cg_refused.proofs.views.seen.Given as goal

abbrev pub ghosts-seen_by : goal.ghosts-seen_by
ghosts-seen_by g a = record { book = a.opened; opening = a.table }
