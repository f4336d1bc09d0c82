use Rattle.cm_state_tests.proofs.sessions.state.two_fields.Given as goal

-- the ledger that was just opened
abbrev pub ghosts-two_fields_with : goal.ghosts-two_fields_with
ghosts-two_fields_with g a = record { name = a.blank.name; parts = a.blank.parts }
