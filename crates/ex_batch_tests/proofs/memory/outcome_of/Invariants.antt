use Rattle.ex_batch_tests.proofs.memory.outcome_of.Given as goal

-- the ledger that was just opened
abbrev pub ghosts-run_over : goal.ghosts-run_over
ghosts-run_over a = record { name = a.blank.name; parts = a.blank.parts }
