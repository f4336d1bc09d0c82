-- What a line does that is handed to the EXEC.
use Rattle.std.proofs.Common.{◌≡◌, ℕ, Bool, true, false, not, ◌&&◌, [], ◌∷◌, Option, None, Some, Result, refl, sym, ◌∙◌, subst}
use Rattle.std.specs.Prelude.{is_some}
use Rattle.cm_fields.specs.declared.code.Code.{Code}
use Rattle.cm_blocks.specs.declared.field.Ending.{Ending}
use Rattle.cm_state.specs.SessionState.{SessionState}
use Rattle.cm_run.specs.Obey.{Obeys, Stage}
use Rattle.cm_run.specs.declared.stop.Stop.{Stop}
use Rattle.ex_commands.specs.declared.command.Command.{Command}
use Rattle.ex_take.specs.Exec.{command_effects, file_line_effects, refuses}
use Rattle.ex_take.specs.ExecState.{ExecState}
use Rattle.ex_take.specs.Interpreter.{command_at}
use Rattle.ex_take.specs.Taking.{is_at_rest}
use Rattle.ex_take.specs.declared.pending.Pending.{Pending}
use Rattle.ex_batch.specs.Job.{bar_of, job_effects, job_line_effects, order_effects, unless_barred}

and_left : (a b : Bool) → (a && b) ≡ true → a ≡ true
and_left true b both = refl
and_left false b both = both

and_right : (a b : Bool) → (a && b) ≡ true → b ≡ true
and_right true b both = both
and_right false b both = absurd (cc)

none_of : (waits : Option Pending) → not (is_some waits) ≡ true → waits ≡ None
none_of None none = refl
none_of (Some pending) none = absurd (cc)

-- where nothing is left to be done no command waits
pub rest_waits : (at : ExecState) → is_at_rest at ≡ true → at.interpreter.pending ≡ None
rest_waits at rests = none_of at.interpreter.pending (and_left _ _ (and_left _ _ (and_right _ _ rests)))

module _ (before now : Stage ExecState) (result : Result Unit Stop) (at : ExecState) where
  -- a line is of the control file where nothing is left to be done
  pub job_rests : (session : SessionState) (moment : ℕ) → is_at_rest at ≡ true
      → Obeys before now (order_effects at session moment session.ending) result
      → Obeys before now (job_line_effects at session moment) result
  unfolding job_line_effects
  job_rests session moment rests obeys = rw rests obeys

  -- and else of a command file
  pub job_goes_on : (session : SessionState) (moment : ℕ) → is_at_rest at ≡ false
      → Obeys before now (file_line_effects at session moment) result
      → Obeys before now (job_line_effects at session moment) result
  unfolding job_line_effects
  job_goes_on session moment busy obeys = rw busy obeys

  -- a command that may not be there is refused
  pub barred : (session : SessionState) (moment : ℕ) (command : Command) (bar : Option Code) (code : Code)
      → command ≡ command_at at.interpreter session → bar ≡ bar_of command → bar ≡ Some code
      → Obeys before now (refuses code at ∷ []) result
      → Obeys before now (job_effects at moment (command_at at.interpreter session)) result
  barred session moment command bar code is bars some obeys =
      subst (λ (it : Command). Obeys before now (job_effects at moment it) result) is
      (subst (λ (it : Option Code). Obeys before now (unless_barred at moment command it) result) (sym some ∙ bars) obeys)

  -- and each other is done
  pub unbarred : (session : SessionState) (moment : ℕ) (command : Command) (bar : Option Code)
      → command ≡ command_at at.interpreter session → bar ≡ bar_of command → bar ≡ None
      → Obeys before now (command_effects at moment command) result
      → Obeys before now (job_effects at moment (command_at at.interpreter session)) result
  unbarred session moment command bar is bars none obeys =
      subst (λ (it : Command). Obeys before now (job_effects at moment it) result) is
      (subst (λ (it : Option Code). Obeys before now (unless_barred at moment command it) result) (sym none ∙ bars) obeys)

  -- by how its parse ended
  pub order_ended : (session : SessionState) (moment : ℕ) (ending : Ending) → session.ending ≡ ending
      → Obeys before now (order_effects at session moment ending) result
      → Obeys before now (order_effects at session moment session.ending) result
  order_ended session moment ending is obeys =
      subst (λ (it : Ending). Obeys before now (order_effects at session moment it) result) (sym is) obeys
