use Rattle.std.proofs.Common.{rules, arith, List, ℕ, [], ◌∷◌, ◌++◌, None, Ok, Err, refl, ap, subst, ◌∙◌}
use Rattle.std.proofs.lemmas.Bool.Decides.{nat_tests}
use Rattle.cm_run.specs.Cause.{ObeyCause}
use Rattle.cm_run.specs.Obey.{Obeys, stage}
use Rattle.cm_run.specs.declared.stop.Stop.TheVariants as stop
use Rattle.ex_store.specs.State.{State}
use Rattle.ex_commands.specs.Commands.Take.{bytes_of}
use Rattle.ex_take.specs.Lines.{file_lines}
use Rattle.ex_take.specs.Exec.{take_effects}
use Rattle.ex_take.specs.ExecState.{ExecState}
use Rattle.ex_take.proofs.Sequels.{take_opens, take_wants}
use Rattle.ex_take.proofs.exec.Exec.take.Goals as goal

pub returns-in_default-clause-obeys : goal.returns-in_default-clause-obeys
returns-in_default-clause-obeys g c =
    subst (λ (it : ExecState). Obeys (stage (g.S.Sink.contents c.args.screen.now) it) (stage (g.S.Sink.contents c.args.screen.now) it) (take_effects it c.args.file.now) (Err stop.Memory)) c.self.view_is
    (take_wants (record { interpreter = c.self.inside.interpreter; files = c.self.inside.files.items; taken = c.self.inside.taken; refused = c.self.inside.refused; stop = c.self.inside.stop }) (record { interpreter = c.self.inside.interpreter; files = c.self.inside.files.items; taken = c.self.inside.taken; refused = c.self.inside.refused; stop = c.self.inside.stop }) c.args.file.now (g.S.Sink.contents c.args.screen.now) (g.S.Sink.contents c.args.screen.now) (Ok tt) c.len.result (grind (arith, nat_tests, c.if-len-eq-MOST_FILES.false)) (search rules))

pub returns-in_default-clause-cause : goal.returns-in_default-clause-cause
unfolding ObeyCause
returns-in_default-clause-cause g c = refl

pub returns-clause-obeys : goal.returns-clause-obeys
returns-clause-obeys g c =
    subst (λ (it : ExecState). Obeys (stage (g.S.Sink.contents c.args.screen.now) it) (stage (g.S.Sink.contents c.settle.new.screen) c.settle.new.self) (take_effects it c.args.file.now) c.settle.result) c.self.view_is
    (take_opens (record { interpreter = c.self.inside.interpreter; files = c.self.inside.files.items; taken = c.self.inside.taken; refused = c.self.inside.refused; stop = c.self.inside.stop }) c.settle.new.self c.args.file.now (g.S.Sink.contents c.args.screen.now) (g.S.Sink.contents c.settle.new.screen) c.settle.result c.len.result
    (grind (arith, nat_tests, c.if-len-eq-MOST_FILES.false)) (search rules)
    (record (record { interpreter = c.self.inside.interpreter; files = c.self.inside.files.items; taken = c.self.inside.taken; refused = c.self.inside.refused; stop = c.self.inside.stop }) { files = c.push.new.self.items; stop = None })
    (ap (λ (it : List (List (List ℕ))). record (record { interpreter = c.self.inside.interpreter; files = c.self.inside.files.items; taken = c.self.inside.taken; refused = c.self.inside.refused; stop = c.self.inside.stop }) { files = it; stop = None })
    (c.push.ensures.items ∙ ap (λ (it : List (List ℕ)). c.self.inside.files.items ++ it ∷ [])
    (c.in-Ok.ensures ∙ ap file_lines (c.file_bytes.ensures.bytes ∙ ap (λ (it : State). bytes_of c.args.file.now it) c.store.ensures))))
    c.settle.ensures.obeys)
