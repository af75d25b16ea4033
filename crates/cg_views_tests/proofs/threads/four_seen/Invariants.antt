use Rattle.cg_views_tests.proofs.threads.four_seen.Given as goal

abbrev pub ghosts-seen_by : goal.ghosts-seen_by
ghosts-seen_by g a = record { book = a.opened; opening = a.table }
