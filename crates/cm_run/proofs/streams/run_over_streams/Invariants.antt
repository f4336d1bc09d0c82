use Rattle.cm_run.proofs.streams.run_over_streams.Given as goal

-- the ledger that was just opened
abbrev pub ghosts-run_counted : goal.ghosts-run_counted
ghosts-run_counted g a = record { name = a.blank.name; parts = a.blank.parts }
