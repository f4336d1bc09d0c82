use Rattle.std.proofs.Common.{sym, ◌∙◌}
use Rattle.ex_system.specs.WordViews.{pair_view}
use Rattle.ex_program.proofs.WordLaws.{lines_of_two}
use Rattle.ex_program.proofs.words.read_lines.Goals as goal

pub returns-in-Some-clause-lines : goal.returns-in-Some-clause-lines
returns-in-Some-clause-lines c =
    c.lines_after.ensures.lines ∙ sym (lines_of_two c.args.words.now (pair_view c.in-Some.two) c.in-Some.ensures)
