use Rattle.cm_state_tests.proofs.sessions.question.tries.Given as goal

-- the ledger that was just opened
abbrev pub ghosts-tries_with : goal.ghosts-tries_with
ghosts-tries_with g a = record { name = a.blank.name; parts = a.blank.parts }
