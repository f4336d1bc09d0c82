use Rattle.std.proofs.Common.{sym, ◌∙◌}
use Rattle.ex_system.specs.WordViews.{pair_view, triple_view}
use Rattle.ex_program.proofs.WordLaws.{of_three, of_two}
use Rattle.ex_program.proofs.words.read_form.Goals as goal

pub returns-in-Some : goal.returns-in-Some
returns-in-Some c = c.files_of.ensures ∙ sym (of_two c.args.words.now (pair_view c.in-Some.two) c.in-Some.ensures)

pub returns-in-Some-as_triple : goal.returns-in-Some-as_triple
returns-in-Some-as_triple c =
    c.with_log.ensures
    ∙ sym (of_three c.args.words.now (triple_view c.in-Some-as_triple.three) c.in_default.ensures c.in-Some-as_triple.ensures)
