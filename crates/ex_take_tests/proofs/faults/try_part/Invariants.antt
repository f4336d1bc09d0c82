use Rattle.ex_take_tests.proofs.faults.try_part.Given as goal

-- the ledger that was just opened
abbrev pub ghosts-try_counted : goal.ghosts-try_counted
ghosts-try_counted a = record { name = a.blank.name; parts = a.blank.parts }
