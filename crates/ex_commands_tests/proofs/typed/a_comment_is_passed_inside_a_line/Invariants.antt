use Rattle.ex_commands_tests.proofs.typed.a_comment_is_passed_inside_a_line.Given as goal

-- the ledger that was just opened
abbrev pub ghosts-try_lines : goal.ghosts-try_lines
ghosts-try_lines g a = record { name = a.blank.name; parts = a.blank.parts }
