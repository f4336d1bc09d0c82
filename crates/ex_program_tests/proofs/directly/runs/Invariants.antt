use Rattle.ex_program_tests.proofs.directly.runs.Given as goal

-- the ledger that was just opened
abbrev pub ghosts-run_over : goal.ghosts-run_over
ghosts-run_over a = record { name = a.blank.name; parts = a.blank.parts }
