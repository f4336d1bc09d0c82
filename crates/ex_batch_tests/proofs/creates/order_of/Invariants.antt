use Rattle.ex_batch_tests.proofs.creates.order_of.Given as goal

-- the ledger that was just opened
abbrev pub ghosts-run_program : goal.ghosts-run_program
ghosts-run_program a = record { name = a.blank.name; parts = a.blank.parts }
