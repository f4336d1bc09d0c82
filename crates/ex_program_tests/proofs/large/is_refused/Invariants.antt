use Rattle.ex_program_tests.proofs.large.is_refused.Given as goal

-- the ledger that was just opened
abbrev pub ghosts-run_program : goal.ghosts-run_program
ghosts-run_program a = record { name = a.blank.name; parts = a.blank.parts }
