use Rattle.cm_blocks_tests.proofs.options.answer_pairs.Given as goal

-- the ledger that was just opened
abbrev pub ghosts-answer_counted : goal.ghosts-answer_counted
ghosts-answer_counted a = record { name = a.blank.name; parts = a.blank.parts }
