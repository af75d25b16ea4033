use Rattle.cg_views_tests.proofs.calls.read_in.Given as goal

abbrev pub ghosts-read_by : goal.ghosts-read_by
ghosts-read_by g a = record { book = a.opened; opening = a.table }
