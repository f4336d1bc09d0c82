use Rattle.ex_commands_tests.proofs.typed.switches_say_how_files_are_printed.Given as goal

-- the ledger that was just opened
abbrev pub ghosts-try_lines : goal.ghosts-try_lines
ghosts-try_lines g a = record { name = a.blank.name; parts = a.blank.parts }
