use Rattle.std.proofs.Common.{Some, Ok, refl, sym, subst, ◌∷◌, [], ◌∙◌}
use Rattle.cm_run.specs.Cause.{ObeyCause}
use Rattle.cm_run.specs.Obey.{Obeys, stage}
use Rattle.ex_commands.proofs.Outcomes.{waits_for_subcommands}
use Rattle.ex_take.specs.Interpreter.{effect_of}
use Rattle.ex_take.specs.InterpreterState.{InterpreterState}
use Rattle.ex_take.proofs.PendingCommands.{pending_of, waits_obeys}
use Rattle.ex_take.proofs.interpreter.Interpreter.obey.Goals as goal

pub returns-then-is_pending-clause-obeys : goal.returns-then-is_pending-clause-obeys
returns-then-is_pending-clause-obeys g c =
    subst (λ (it : InterpreterState). Obeys (stage (g.S.Sink.contents c.args.screen.now) c.args.self.now)
    (stage (g.S.Sink.contents c.args.screen.now) (record it { pending = Some (pending_of c.args.command c.args.moment) }))
    (effect_of c.args.self.now c.args.moment c.args.command ∷ []) (Ok tt)) (sym c.self.view_is)
    (waits_obeys c.args.self.now c.args.moment c.args.command (g.S.Sink.contents c.args.screen.now)
    (sym c.is_pending.ensures ∙ c.if-is_pending.true))

pub returns-then-is_pending-clause-cause : goal.returns-then-is_pending-clause-cause
unfolding ObeyCause
returns-then-is_pending-clause-cause g c = refl

pub returns-then-is_pending-clause-answer : goal.returns-then-is_pending-clause-answer
returns-then-is_pending-clause-answer g c = λ outcome.
    sym ((waits_for_subcommands c.args.command c.args.moment c.args.self.now.state).1 (sym c.is_pending.ensures ∙ c.if-is_pending.true))
