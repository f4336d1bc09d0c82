use Rattle.std.proofs.Common.{◌∙◌}
use Rattle.ex_system.specs.WordViews.{form_view}
use Rattle.ex_run.proofs.Words.{heads}
use Rattle.ex_program.specs.ExecRun.{exec_left, exec_over}
use Rattle.ex_program.proofs.KnownRuns.{ended_where}
use Rattle.ex_program.proofs.program.exec20.Goals as goal

pub returns-clause-limit : goal.returns-clause-limit
returns-clause-limit g c = λ keys form start asks taken rest all count going screen log source host.
    ((heads _ exec_over _ (form_view c.in-Some.form) _ _ _ _ c.run_form.result c.in-Some.ensures c.run_form.ensures).finishes keys form start asks).limit taken rest all count
    (λ moments known. ended_where (exec_left form.logs start moments taken) ∙ going moments known)
    (record { screen = screen; log = log; keys = source; host = host })
