use Rattle.cg_views_bench.proofs.main.Given as goal

abbrev pub ghosts-all_by : goal.ghosts-all_by
ghosts-all_by g a = record { book = a.opened; opening = a.table }
