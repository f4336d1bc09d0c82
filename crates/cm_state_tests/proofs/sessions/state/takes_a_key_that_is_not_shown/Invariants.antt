use Rattle.cm_state_tests.proofs.sessions.state.takes_a_key_that_is_not_shown.Given as goal

-- the ledger that was just opened
abbrev pub ghosts-key_unshown : goal.ghosts-key_unshown
ghosts-key_unshown g a = record { name = a.blank.name; parts = a.blank.parts }
