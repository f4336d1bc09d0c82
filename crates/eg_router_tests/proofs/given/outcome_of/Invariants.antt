use Rattle.eg_router_tests.proofs.given.outcome_of.Given as goal

-- the ledger that was just opened
abbrev pub ghosts-run_program : goal.ghosts-run_program
ghosts-run_program a = record { name = a.blank.name; parts = a.blank.parts }
