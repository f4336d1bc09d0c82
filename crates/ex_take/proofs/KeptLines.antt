-- What the EXEC shows ends its line wherever a line begins, also at the lines of command files.
use Rattle.std.proofs.Common.{◌≡◌, ◌≢◌, ℕ, ◌==◌, Bool, true, false, cond, List, [], ◌∷◌, ◌++◌, map, length, Option, None, Some, inl, inr, refl, sym, ap, ◌∙◌, subst, append-nil}
use Rattle.cm_fields.specs.declared.code.Code.{Code}
use Rattle.cm_fields.specs.declared.code.Code.TheVariants.{NotInTake, TakeDepth}
use Rattle.cm_blocks.specs.declared.field.Ending.{Ending}
use Rattle.cm_blocks.specs.declared.field.Ending.TheVariants as endings
use Rattle.cm_run.specs.Semantics.{Effect}
use Rattle.cm_run.specs.Obey.{left_by, replies}
use Rattle.cm_run.specs.declared.mode.Mode.TheVariants as mode
use Rattle.cm_run.proofs.Acts.{left_append, replies_append}
use Rattle.cm_run.specs.Keeping.{HasPrintedPrompt, IsLineKeeping, is_line}
use Rattle.cm_run.specs.Shows.{EndsLine, IsEnded}
use Rattle.cm_run.proofs.LineEnds.{ended_then, ends_both, ends_effect}
use Rattle.cm_run.proofs.Echoes.{prompts_printed}
use Rattle.ex_store.specs.declared.place.Place.{Place}
use Rattle.ex_commands.specs.Act.{act_of}
use Rattle.ex_commands.specs.FileTyping.{bytes_after, echo_of, echo_text, turn_of}
use Rattle.ex_commands.specs.declared.acted.Acted.{Acted}
use Rattle.ex_commands.specs.declared.acted.Acted.TheVariants as answers
use Rattle.ex_commands.specs.declared.data.DataTurn.{DataTurn}
use Rattle.ex_commands.specs.declared.data.DataTurn.TheVariants as turns
use Rattle.ex_commands.specs.Command.{is_pending}
use Rattle.ex_commands.specs.declared.command.Command.{Command}
use Rattle.ex_commands.specs.declared.command.Command.TheVariants as commands
use Rattle.cm_state.specs.SessionState.{SessionState}
use Rattle.ex_commands.proofs.LineEnds.{Ended, Ends, act_ends, refusal_ends, write_ends}
use Rattle.ex_commands.proofs.TypedEnds.{last_key_ends}
use Rattle.ex_take.specs.Interpreter.{command_at, completion_answer, echo_by, effect_of, mode_by, mode_of, pending_complete, pending_with, raw_answer, raw_by, subcommand_effects, typed_effects, written}
use Rattle.ex_take.specs.InterpreterState.{InterpreterState}
use Rattle.ex_take.specs.declared.pending.Pending.{Pending}
use Rattle.ex_take.specs.declared.typing.Typing.{Typing}
use Rattle.ex_take.specs.Exec.{acts, after_end, closed, closes, command_effects, counts, end_effects, ending_effects, fault_effects, follows, followed, innermost, is_over, lifted, line_by, line_effects, looks_ahead, next_fault, opened, opens, passed, raw_effects, refuses, settles, take_effects, exec_semantics, typing_effects, unwaiting}
use Rattle.ex_take.specs.ExecState.{ExecState}
use Rattle.ex_take.specs.declared.exec.TheConstants.{MOST_FILES}
use Rattle.ex_take.proofs.Sequels.{left_lifted, replies_lifted}

prompt_printed : (ended : Bool) (typing : Option Typing) (pending : Option Pending)
    → HasPrintedPrompt (mode_by ended typing pending)
prompt_printed true typing pending = tt
prompt_printed false None None = prompts_printed.0
prompt_printed false None (Some pending) = prompts_printed.1
prompt_printed false (Some typing) pending = tt

-- as commands say it
as_ends : (bytes : List ℕ) → Ends bytes → EndsLine bytes
as_ends bytes (inl none) = inl none
as_ends bytes (inr ended) = inr (record { front = ended.front; ends = ended.ends })

-- while a file is typed in no line begins
no_line : (ended : Bool) (typing : Typing) (pending : Option Pending) → is_line (mode_by ended (Some typing) pending) ≡ true → ⊥
no_line true typing pending is = cc
no_line false typing pending is = cc

-- as commands say it of bytes that are some
as_ended : (bytes : List ℕ) → Ended bytes → IsEnded bytes
as_ended bytes ended = record { front = ended.front; ends = ended.ends }

-- a key with which the typing ends shows the end of a line, and the file's reply ends its own
by_turn : (interpreter : InterpreterState) (to : Typing) (shown : List ℕ) (turn : DataTurn) → (turn ≢ turns.More → IsEnded shown)
    → is_line (mode_of (left_by interpreter (typed_effects interpreter to turn))) ≡ true → IsEnded (shown ++ replies (typed_effects interpreter to turn))
unfolding typed_effects
by_turn interpreter to shown turns.More ends line = absurd (no_line interpreter.ended to interpreter.pending line)
by_turn interpreter to shown turns.Write ends line =
    let at = record interpreter { typing = None } in
    ended_then shown (replies (written at to ∷ [])) (ends (λ is. cc))
    (ends_effect (written at to) (as_ends _ (write_ends to.to to.typed to.moment at.state)))
by_turn interpreter to shown turns.Dropped ends line = ended_then shown [] (ends (λ is. cc)) (inl refl)

raw_ends : (interpreter : InterpreterState) (key : ℕ) (ended : Bool) (typing : Option Typing) (pending : Option Pending)
    → mode_by ended typing pending ≡ mode.Raw
    → is_line (mode_of (left_by interpreter (raw_by interpreter key typing))) ≡ true → IsEnded (echo_by key typing ++ replies (raw_by interpreter key typing))
raw_ends interpreter key true typing pending is line = absurd (cc)
raw_ends interpreter key false None None is line = absurd (cc)
raw_ends interpreter key false None (Some pending) is line = absurd (cc)
raw_ends interpreter key false (Some typing) pending is line =
    by_turn interpreter (record typing { typed = bytes_after typing.typed key }) (echo_text (echo_of typing.typed key)) (turn_of (echo_of typing.typed key))
    (λ ends. as_ended _ (last_key_ends typing.typed key ends)) line

-- a main line, and a line of subcommands, which shows something only where the command acts after it
effect_ends : (interpreter : InterpreterState) (moment : ℕ) (command : Command) → EndsLine (replies (effect_of interpreter moment command ∷ []))
effect_ends interpreter moment command =
    ends_effect (effect_of interpreter moment command) (as_ends _ (act_ends command moment interpreter.state))

completion_ends : (interpreter : InterpreterState) (pending : Pending) (test : Bool)
    → EndsLine (replies (cond test [] (effect_of (record interpreter { pending = None }) pending.moment pending.command ∷ [])))
completion_ends interpreter pending true = inl refl
completion_ends interpreter pending false = effect_ends (record interpreter { pending = None }) pending.moment pending.command

-- acts after others
both_end : (first second : List (Effect ExecState)) → EndsLine (replies first) → EndsLine (replies second) → EndsLine (replies (first ++ second))
both_end first second one other = subst EndsLine (sym (replies_append first second)) (ends_both (replies first) (replies second) one other)

refusal_shown : (at : ExecState) (code : Code) → EndsLine (replies (refuses code at ∷ []))
refusal_shown at code = ends_effect (refuses code at) (as_ends _ (inr (refusal_ends code)))

module _ (at : ExecState) where
  faults_end : (fault : Option Code) → EndsLine (replies (fault_effects at fault))
  faults_end None = inl refl
  faults_end (Some code) = refusal_shown at code

  looks_end : EndsLine (replies (looks_ahead at))
  unfolding looks_ahead
  looks_end = faults_end (next_fault at.taken (innermost at.files))

closes_end : (at : ExecState) → EndsLine (replies (closes at))
unfolding closes
closes_end at = looks_end (closed at)

after_ends : (at : ExecState) (answer : Acted) → EndsLine (replies (after_end at answer))
unfolding after_end
after_ends at (answers.Refused code) = inl refl
after_ends at answers.Ok = closes_end at
after_ends at answers.Pending = closes_end at
after_ends at answers.Data = closes_end at
after_ends at answers.Take = closes_end at
after_ends at answers.Logout = closes_end at
after_ends at answers.NoMemory = closes_end at
after_ends at answers.Failed = closes_end at

lifted_end : (at : ExecState) (effects : List (Effect InterpreterState)) → EndsLine (replies effects) → EndsLine (replies (map (lifted at) effects))
lifted_end at effects ends = subst EndsLine (sym (replies_lifted at effects)) ends

subcommands_end : (interpreter : InterpreterState) (pending : Pending) → EndsLine (replies (subcommand_effects interpreter pending))
subcommands_end interpreter pending = completion_ends interpreter pending (is_pending pending.command)

file_ends : (at : ExecState) (pending : Option Pending) → EndsLine (replies (end_effects at pending))
file_ends at None = closes_end at
file_ends at (Some pending) =
    let on = unwaiting at in
    let completed = pending_complete pending in
    let effects = subcommand_effects on.interpreter completed in
    both_end (map (lifted on) effects) (after_end (record on { interpreter = left_by on.interpreter effects }) (completion_answer on.interpreter completed))
    (lifted_end on effects (subcommands_end on.interpreter completed))
    (after_ends (record on { interpreter = left_by on.interpreter effects }) (completion_answer on.interpreter completed))

settles_end : (at : ExecState) → EndsLine (replies (settles at))
unfolding settles
settles_end at = by (is_over (innermost at.files)) where
  by : (over : Bool) → EndsLine (replies (cond over (end_effects at at.interpreter.pending) (looks_ahead at)))
  by true = file_ends at at.interpreter.pending
  by false = looks_end at

follows_end : (at : ExecState) (answer : Acted) → EndsLine (replies (follows at answer))
unfolding follows
follows_end at (answers.Refused code) = inl refl
follows_end at answers.Logout = inl refl
follows_end at answers.Ok = settles_end at
follows_end at answers.Pending = settles_end at
follows_end at answers.Data = settles_end at
follows_end at answers.Take = settles_end at
follows_end at answers.NoMemory = settles_end at
follows_end at answers.Failed = settles_end at

followed_ends : (at : ExecState) (effects : List (Effect InterpreterState)) (answer : Acted) → EndsLine (replies effects) → EndsLine (replies (followed at effects answer))
followed_ends at effects answer ends =
    both_end (map (lifted at) effects) (follows (record at { interpreter = left_by at.interpreter effects }) answer) (lifted_end at effects ends)
    (follows_end (record at { interpreter = left_by at.interpreter effects }) answer)

acts_end : (at : ExecState) (moment : ℕ) (command : Command) → EndsLine (replies (acts at moment command))
acts_end at moment command =
    followed_ends at (effect_of at.interpreter moment command ∷ []) (act_of command moment at.interpreter.state).answer (effect_ends at.interpreter moment command)

take_ends : (at : ExecState) (file : Place) → EndsLine (replies (take_effects at file))
take_ends at file = by (length at.files == MOST_FILES) where
  by : (full : Bool) → EndsLine (replies (cond full (refuses TakeDepth at ∷ []) (opens at file ∷ settles (opened at file))))
  by true = refusal_shown at TakeDepth
  by false = settles_end (opened at file)

typing_ends : (at : ExecState) (moment : ℕ) (to : Place) → EndsLine (replies (typing_effects at moment to))
typing_ends at moment to = by (length at.files == 0) where
  by : (none : Bool) → EndsLine (replies (cond none (acts at moment (commands.CopyTty to)) (refuses NotInTake at ∷ [])))
  by true = acts_end at moment (commands.CopyTty to)
  by false = refusal_shown at NotInTake

commands_end : (at : ExecState) (moment : ℕ) (command : Command) → EndsLine (replies (command_effects at moment command))
unfolding command_effects
commands_end at moment (commands.Take file) = take_ends at file
commands_end at moment (commands.CopyTty to) = typing_ends at moment to
commands_end at moment command = acts_end at moment command

lines_end : (at : ExecState) (session : SessionState) (moment : ℕ) → EndsLine (replies (line_effects at session moment))
unfolding line_effects
lines_end at session moment = by at.interpreter.pending where
  by : (pending : Option Pending) → EndsLine (replies (line_by at session moment pending))
  by None = commands_end at moment (command_at at.interpreter session)
  by (Some pending) =
      followed_ends (unwaiting at) (subcommand_effects (unwaiting at).interpreter (pending_with session pending))
      (completion_answer (unwaiting at).interpreter (pending_with session pending)) (subcommands_end (unwaiting at).interpreter (pending_with session pending))

endings_end : (at : ExecState) (session : SessionState) (moment : ℕ) (ending : Ending) → EndsLine (replies (ending_effects at session moment ending))
endings_end at session moment endings.Done = lines_end at session moment
endings_end at session moment (endings.Fault fault) = refusal_shown at fault.code
endings_end at session moment (endings.Open place) = settles_end at

-- that a text is refused shows nothing more, and is no act of the EXEC's
counts_show : (at : ExecState) (answer : Acted) → replies (counts at answer) ≡ []
counts_show at (answers.Refused code) = refl
counts_show at answer = refl

counts_leave : (at : ExecState) (answer : Acted) → (left_by at (counts at answer)).interpreter ≡ at.interpreter
counts_leave at (answers.Refused code) = refl
counts_leave at answer = refl

module _ (at : ExecState) (effects : List (Effect InterpreterState)) (answer : Acted) where
  abbrev left : ExecState
  left = record at { interpreter = left_by at.interpreter effects }

  raw_shown : replies (map (lifted at) effects ++ counts left answer) ≡ replies effects
  raw_shown =
      replies_append (map (lifted at) effects) (counts left answer)
      ∙ ap (λ bytes. replies (map (lifted at) effects) ++ bytes) (counts_show left answer)
      ∙ append-nil (replies (map (lifted at) effects)) ∙ replies_lifted at effects

  pub raw_left : (left_by at (map (lifted at) effects ++ counts left answer)).interpreter ≡ left_by at.interpreter effects
  raw_left =
      ap (λ (it : ExecState). it.interpreter) (left_append (map (lifted at) effects) (counts left answer) at)
      ∙ ap (λ (it : ExecState). (left_by it (counts left answer)).interpreter) (left_lifted at effects at.interpreter)
      ∙ counts_leave left answer

raw_keys_end : (at : ExecState) (key : ℕ) → mode_of at.interpreter ≡ mode.Raw
    → is_line (mode_of (left_by at (raw_effects at key)).interpreter) ≡ true
    → IsEnded (echo_by key at.interpreter.typing ++ replies (raw_effects at key))
raw_keys_end at key is line =
    let effects = raw_by at.interpreter key at.interpreter.typing in
    let answer = raw_answer at.interpreter key at.interpreter.typing in
    subst (λ bytes. IsEnded (echo_by key at.interpreter.typing ++ bytes)) (sym (raw_shown at effects answer))
    (raw_ends at.interpreter key at.interpreter.ended at.interpreter.typing at.interpreter.pending is
    (sym (ap (λ (it : InterpreterState). is_line (mode_of it)) (raw_left at effects answer)) ∙ line))

pub exec_keeps_lines : IsLineKeeping exec_semantics
exec_keeps_lines = record {
  kept = λ at key going kept. tt;
  prompts = λ at kept. prompt_printed at.interpreter.ended at.interpreter.typing at.interpreter.pending;
  lines = λ at session moment. lines_end at session moment;
  file_lines = λ at session moment. endings_end (passed at) session moment session.ending;
  raw_keys = λ at key is line. raw_keys_end at key is line;
}
