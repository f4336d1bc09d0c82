use Rattle.cm_run_tests.proofs.handed.try_case.Given as goal

-- the ledger that was just opened
abbrev pub ghosts-is_so_with : goal.ghosts-is_so_with
ghosts-is_so_with g a = record { name = a.blank.name; parts = a.blank.parts }
