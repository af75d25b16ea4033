use Rattle.cg_views_tests.proofs.appending.answers.Given as goal

abbrev pub ghosts-answers_by : goal.ghosts-answers_by
ghosts-answers_by g a = record { book = a.opened; opening = a.table }
