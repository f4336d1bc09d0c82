use Rattle.std.proofs.Common.{Bool, ap, arith, refl, ◌∙◌}
use Rattle.ex_system.specs.WordViews.{form_view}
use Rattle.ex_run.specs.Over.{has_ended, left_of}
use Rattle.ex_run.proofs.Words.{heads}
use Rattle.mm_mail.specs.MailRun.{mail_left}
use Rattle.mm_mail.specs.Semantics.{mail_over}
use Rattle.mm_mail.proofs.KnownRuns.{ended_where, unlogged}
use Rattle.mm_mail.proofs.program.mm20.Goals as goal

pub returns-clause-limit : goal.returns-clause-limit
returns-clause-limit g c = λ keys form start asks taken rest all count going screen source host.
    ((heads _ mail_over _ (form_view c.in-Some.form) _ _ _ _ c.run_form.result c.in-Some.ensures c.run_form.ensures).finishes keys form start asks).limit taken rest all count
    (λ moments known. ap (λ (logs : Bool). has_ended mail_over (left_of mail_over logs start moments taken)) (unlogged c.args.words.now form asks.0)
    ∙ ended_where (mail_left start moments taken) ∙ going moments known)
    (record { screen = screen; log = (refl, omega arith); keys = source; host = host })
