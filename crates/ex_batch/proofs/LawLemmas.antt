-- Laws of control files.
use Rattle.std.proofs.Common.{◌≡◌, ◌≤◌, ℕ, zero, suc, true, false, List, [], ◌∷◌, length, length-append, Option, None, Some, refl, sym, ap, ◌∙◌, arith}
use Rattle.std.specs.Prelude.{slice_get}
use Rattle.cm_text.specs.Text.{finished}
use Rattle.cm_fields.specs.declared.code.Code.{Code}
use Rattle.cm_fields.specs.declared.code.Code.TheVariants.{BadLine}
use Rattle.cm_blocks.specs.KeptParse.{cost}
use Rattle.cm_blocks.specs.declared.field.Ending.{Ending}
use Rattle.cm_blocks.specs.declared.field.Ending.TheVariants as endings
use Rattle.cm_blocks.specs.declared.field.Fault.{Fault}
use Rattle.cm_state.specs.SessionState.{SessionState}
use Rattle.cm_run.specs.Event.{Trials, moments_after, state_after}
use Rattle.cm_run.specs.SingleLine.{handed_trace}
use Rattle.cm_run.specs.Semantics.{setting_of}
use Rattle.cm_run.specs.Obey.{left_by}
use Rattle.cm_run.specs.Trace.{effects_trace, file_session, line_trace, node_of}
use Rattle.ex_commands.specs.declared.command.Command.{Command}
use Rattle.ex_take.specs.Exec.{command_effects, exec_semantics, line_effects, stopped}
use Rattle.ex_take.specs.ExecState.{ExecState}
use Rattle.ex_take.specs.Interpreter.{command_at}
use Rattle.ex_take.specs.Taking.{is_at_rest}
use Rattle.ex_batch.specs.Control.{is_parsable}
use Rattle.ex_batch.specs.Batch.{line_step, text_trace}
use Rattle.ex_batch.specs.Job.{bar_of, job_effects, job_semantics, order_effects, unless_barred}
use Rattle.ex_batch.specs.LineCount.{used_at, used_from, used_in}
use Rattle.ex_batch.specs.declared.batch.TheConstants.{CONTROL_LINES}
use Rattle.ex_batch.specs.declared.step.Next.{Next}
use Rattle.ex_batch.specs.declared.step.Next.TheVariants.{Line, Over}
use Rattle.ex_batch.proofs.HandedLines.{handed_as}
use Rattle.ex_batch.proofs.Jobs.{rest_waits}

-- a turn uses one line at most
one_used : (place : ℕ) (found : Option (List ℕ)) → length (used_at place found) ≤ 1
one_used place None = omega arith
one_used place (Some line) = omega arith

used_few : (lines : List (List ℕ)) (more : ℕ) (moments : List ℕ) (at : ExecState) (next : Next)
    → length (used_from lines more moments at next) ≤ more
unfolding used_from
used_few lines more moments at (Over end) = omega arith
used_few lines zero moments at (Line place) = omega arith
used_few lines (suc more) moments at (Line place) =
    let step = line_step lines place moments at (slice_get lines place) in
    let one = one_used place (slice_get lines place) in
    let rest = used_few lines more (moments_after moments step.events) (state_after at step.events) step.next in
    simp length-append (omega (arith, one, rest))

pub lines_used : (lines : List (List ℕ)) (moments : List ℕ) (at : ExecState) → length (used_in lines moments at) ≤ CONTROL_LINES
lines_used lines moments at = used_few lines CONTROL_LINES moments at (Line 0)

-- a line of the EXEC's that may be there
module _ (at : ExecState) (text : List ℕ) (moment : ℕ) (rests : is_at_rest at ≡ true) where
  abbrev session : SessionState
  session = file_session job_semantics at text

  -- what its acts are
  same_effects : session.ending ≡ endings.Done → bar_of (command_at at.interpreter session) ≡ None
      → order_effects at session moment session.ending ≡ line_effects at session moment
  unfolding order_effects line_effects
  same_effects done free =
      let waits : at.interpreter.pending ≡ None = rest_waits at rests in
      let as_done : order_effects at session moment session.ending ≡ job_effects at moment (command_at at.interpreter session) =
      ap (λ (it : Ending). order_effects at session moment it) done in
      let let_be : job_effects at moment (command_at at.interpreter session) ≡ command_effects at moment (command_at at.interpreter session) =
      ap (λ (it : Option Code). unless_barred at moment (command_at at.interpreter session) it) free in
      let typed : line_effects at session moment ≡ command_effects at moment (command_at at.interpreter session) = rw waits refl in
      as_done ∙ let_be ∙ sym typed

  pub line_as_typed : session.ending ≡ endings.Done → bar_of (command_at at.interpreter session) ≡ None
      → handed_trace job_semantics moment at text
      ≡ Trials (cost (setting_of exec_semantics at) (node_of (exec_semantics.mode_of at)) [] (finished text))
      ∷ line_trace exec_semantics at (file_session exec_semantics at text) moment
  unfolding line_trace
  line_as_typed done free = handed_as at text moment rests (line_effects at session moment) (same_effects done free)

-- refused lines
pub text_stopped : (at : ExecState) (text : List ℕ) (moment : ℕ) → is_parsable text ≡ false
    → state_after at (text_trace moment at text) ≡ stopped BadLine at
unfolding effects_trace
text_stopped at text moment is = rw is refl

pub parse_stopped : (at : ExecState) (session : SessionState) (moment : ℕ) (fault : Fault)
    → left_by at (order_effects at session moment (endings.Fault fault)) ≡ stopped fault.code at
unfolding order_effects
parse_stopped at it moment fault = refl

pub barred_stopped : (at : ExecState) (moment : ℕ) (command : Command) (code : Code) → bar_of command ≡ Some code
    → left_by at (job_effects at moment command) ≡ stopped code at
barred_stopped at moment command code is = ap (λ (it : Option Code). left_by at (unless_barred at moment command it)) is
