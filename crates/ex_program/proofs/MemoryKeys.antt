-- At which keys of the EXEC memory is asked for.
use Rattle.std.proofs.Common.{◌≡◌, inl, inr, ℕ, zero, suc, ◌||◌, Bool, true, false, cond, List, [], ◌∷◌, ◌++◌, map, Option, None, Some, IsTrue, Result, Err, refl, sym, ap, subst, ◌∙◌}
use Rattle.std.specs.List.{list_any}
use Rattle.std.proofs.lemmas.List.{append-nil}
use Rattle.std.proofs.lemmas.List.Folds.{list_any-append}
use Rattle.cm_state.specs.SessionState.{SessionState}
use Rattle.cm_state.specs.declared.turn.Turn.{Turn}
use Rattle.cm_state.specs.declared.turn.Turn.TheVariants as turn
use Rattle.cm_run.specs.declared.engine.TheConstants.{FILE_LINES}
use Rattle.cm_run.specs.declared.mode.Mode.{Mode}
use Rattle.cm_run.specs.declared.mode.Mode.TheVariants as mode
use Rattle.cm_run.specs.Cut.{Cut, IsCut, MemoryCut, Traces, event_of, part_of}
use Rattle.cm_run.specs.Event.{Event, Memory, keys_of, state_after}
use Rattle.cm_run.specs.Idle.{turn_at}
use Rattle.cm_run.specs.Keeping.{is_line}
use Rattle.cm_run.specs.LastKey.{met_by}
use Rattle.cm_run.specs.Semantics.{Effect}
use Rattle.cm_run.specs.Obey.{left_by}
use Rattle.cm_run.specs.Observation.{Performs}
use Rattle.cm_run.specs.Progress.{progress}
use Rattle.cm_run.specs.Trace.{Keystroke, RunState, effects_trace, file_line_trace, file_trace, is_ended, key_trace, keystroke, keystroke_by, line_by, line_keystroke, line_trace, next_line, raw_keystroke, starting, step, turn_outcome}
use Rattle.cm_run.specs.declared.stop.Stop.{Stop}
use Rattle.cm_run.specs.declared.stop.Stop.TheVariants as stops
use Rattle.cm_run.proofs.LineTurns.{moment_of, session_at}
use Rattle.cm_run.proofs.Acts.{left_append}
use Rattle.cm_run.proofs.Progress.{progress_ended}
use Rattle.cm_run.proofs.Screens.{state-effects}
use Rattle.cm_run.proofs.MemoryEvents.{asked_run, asks, asks_both, asks_effects, asks_keystroke}
use Rattle.ex_commands.specs.Act.{act_of}
use Rattle.ex_commands.specs.Command.{is_pending}
use Rattle.ex_commands.specs.FileTyping.{bytes_after, echo_of, turn_of}
use Rattle.ex_commands.specs.declared.acted.Acted.{Acted}
use Rattle.ex_commands.specs.declared.acted.Acted.TheVariants as answers
use Rattle.ex_commands.specs.declared.command.Command.{Command}
use Rattle.ex_commands.specs.declared.command.Command.TheVariants as commands
use Rattle.ex_commands.specs.declared.data.DataTurn.{DataTurn}
use Rattle.ex_commands.specs.declared.data.DataTurn.TheVariants as turns
use Rattle.ex_commands.proofs.TypedEnds.{writes_at}
use Rattle.ex_take.specs.Exec.{acts, command_effects, counts, exec_semantics, fault_effects, end_effects, followed, follows, innermost, is_over, lifted, line_by as effects_by, line_effects, line_in, next_fault, raw_effects, settles, looks_ahead, unwaiting}
use Rattle.ex_take.specs.ExecState.{ExecState, exec_start}
use Rattle.ex_take.specs.Interpreter.{allocates, completion_answer, effect_of, mode_of, pending_with, raw_answer, raw_by, subcommand_effects, typed_effects}
use Rattle.ex_take.specs.InterpreterState.{InterpreterState}
use Rattle.ex_take.specs.Quiet.{IsQuiet, IsQuietUnlessEnded}
use Rattle.ex_take.specs.declared.pending.Pending.{Pending}
use Rattle.ex_take.specs.declared.typing.Typing.{Typing}
use Rattle.ex_take.proofs.Sequels.{left_lifted}
use Rattle.ex_take.proofs.QuietKeys.{step_quiet}
use Rattle.ex_store.specs.State.{State}
use Rattle.cm_io.specs.declared.status.Status.TheVariants as status
use Rattle.ex_system.specs.Disk.{Disk}
use Rattle.ex_system.specs.Form.{Form}
use Rattle.ex_run.specs.Course.{Past}
use Rattle.ex_run.specs.Over.{has_ended}
use Rattle.ex_run.specs.Scene.{Scene, Telling, seen}
use Rattle.ex_run.proofs.QuietEnds.{closes_memory}
use Rattle.ex_program.specs.ExecRun.{exec_over, exec_trace}
use Rattle.ex_program.specs.TakesMemory.{LastTakesMemory, TakesMemory, command_by, command_of_key}
use Rattle.ex_program.proofs.KnownRuns.{ended_where}
use Rattle.ex_program.proofs.Summaries.{is_memory}

-- for one of these acts memory may run out
abbrev wants : {S : Type 0} → List (Effect S) → Bool
wants {S} effects = list_any (λ (effect : Effect S). effect.may_allocate) effects

wants_lifted : (at : ExecState) (effects : List (Effect InterpreterState)) → wants (map (lifted at) effects) ≡ wants effects
wants_lifted at [] = refl
wants_lifted at (effect ∷ effects) = ap (λ more. effect.may_allocate || more) (wants_lifted at effects)

or_none : (a : Bool) → (a || false) ≡ a
or_none true = refl
or_none false = refl

-- where no file is open, nothing of files follows an act
module _ (at : ExecState) (none : at.files ≡ []) where
  pub nothing_settles : settles at ≡ []
  unfolding settles looks_ahead
  nothing_settles =
      ap (λ (files : List (List (List ℕ))). cond (is_over (innermost files)) (end_effects at at.interpreter.pending)
      (fault_effects at (next_fault at.taken (innermost files)))) none

  settles_keep : (wants (settles at) ≡ false) × ((left_by at (settles at)).files ≡ [])
  settles_keep = (ap (λ effects. wants effects) nothing_settles, ap (λ effects. (left_by at effects).files) nothing_settles ∙ none)

  follows_keep : (answer : Acted) → (wants (follows at answer) ≡ false) × ((left_by at (follows at answer)).files ≡ [])
  unfolding follows
  follows_keep (answers.Refused code) = (refl, refl)
  follows_keep answers.Logout = (refl, none)
  follows_keep answers.Ok = settles_keep
  follows_keep answers.Pending = settles_keep
  follows_keep answers.Data = settles_keep
  follows_keep answers.Take = settles_keep
  follows_keep answers.NoMemory = settles_keep
  follows_keep answers.Failed = settles_keep

-- acts of the EXEC's, and what follows them
pub followed_keep : (at : ExecState) (effects : List (Effect InterpreterState)) (answer : Acted) → at.files ≡ []
    → (wants (followed at effects answer) ≡ wants effects) × ((left_by at (followed at effects answer)).files ≡ [])
followed_keep at effects answer none =
    let left = record at { interpreter = left_by at.interpreter effects } in
    let more = follows_keep left none answer in (
      list_any-append (λ (effect : Effect ExecState). effect.may_allocate) (map (lifted at) effects) (follows left answer)
          ∙ ap (λ rest. wants (map (lifted at) effects) || rest) more.0 ∙ or_none (wants (map (lifted at) effects)) ∙ wants_lifted at effects,
      ap (λ (it : ExecState). it.files) (left_append (map (lifted at) effects) (follows left answer) at)
          ∙ ap (λ (it : ExecState). (left_by it (follows left answer)).files) (left_lifted at effects at.interpreter) ∙ more.1,
    )

-- a line whose command takes no memory asks for none, and opens no file
abbrev Keeps : ExecState → List (Effect ExecState) → Type 0
Keeps at effects = (wants effects ≡ false) × ((left_by at effects).files ≡ [])

acts_keep : (at : ExecState) (moment : ℕ) (command : Command) → at.files ≡ [] → allocates command ≡ false → Keeps at (acts at moment command)
acts_keep at moment command none free =
    let answer = (act_of command moment at.interpreter.state).answer in
    let both = followed_keep at (effect_of at.interpreter moment command ∷ []) answer none in
    (both.0 ∙ or_none (allocates command) ∙ free, both.1)

commands_keep : (at : ExecState) (moment : ℕ) (command : Command) → at.files ≡ [] → allocates command ≡ false → Keeps at (command_effects at moment command)
unfolding command_effects
commands_keep at moment (commands.Take file) none free = absurd (cc)
commands_keep at moment (commands.CopyTty to) none free = absurd (cc)
commands_keep at moment command none free = acts_keep at moment command none free

completion_wants : (interpreter : InterpreterState) (pending : Pending) → allocates pending.command ≡ false
    → wants (subcommand_effects interpreter pending) ≡ false
completion_wants interpreter pending free = by (is_pending pending.command) where
  by : (waits : Bool) → wants (cond waits [] (effect_of (record interpreter { pending = None }) pending.moment pending.command ∷ [])) ≡ false
  by true = refl
  by false = or_none (allocates pending.command) ∙ free

line_keeps : (at : ExecState) (session : SessionState) (moment : ℕ) (waits : Option Pending) → at.files ≡ []
    → allocates (command_by at.interpreter session waits) ≡ false → Keeps at (effects_by at session moment waits)
line_keeps at session moment None none free = commands_keep at moment _ none free
line_keeps at session moment (Some pending) none free =
    let whole = pending_with session pending in
    let on = unwaiting at in
    let both = followed_keep on (subcommand_effects on.interpreter whole) (completion_answer on.interpreter whole) none in
    (both.0 ∙ completion_wants on.interpreter whole free, both.1)

-- where no file is open none of its lines is taken
no_next : (it : Mode) → line_by it None ≡ None
no_next (mode.Line node prompt takes_moment) = refl
no_next mode.Raw = refl
no_next mode.Ended = refl

pub no_lines : (lines moment : ℕ) (at : ExecState) → at.files ≡ [] → file_trace exec_semantics lines moment at ≡ []
unfolding file_trace
no_lines zero moment at none = refl
no_lines (suc lines) moment at none =
    let next : next_line exec_semantics at ≡ None
    = ap (λ (files : List (List (List ℕ))). line_by (mode_of at.interpreter) (line_in (innermost files))) none ∙ no_next (mode_of at.interpreter) in
    let is : file_line_trace exec_semantics moment at (next_line exec_semantics at) ≡ [] = ap (λ line. file_line_trace exec_semantics moment at line) next in
    ap (λ events. events ++ file_trace exec_semantics lines moment (state_after at events)) is ∙ no_lines lines moment at none

confirmed_keeps : (at : ExecState) (session : SessionState) (moment : ℕ) → at.files ≡ []
    → allocates (command_by at.interpreter session at.interpreter.pending) ≡ false → asks (line_trace exec_semantics at session moment) ≡ false
unfolding line_trace line_effects
confirmed_keeps at session moment none free =
    let effects = line_effects at session moment in
    let keeps = line_keeps at session moment at.interpreter.pending none free in
    let left = state_after at (effects_trace effects) in
    let leads : left ≡ left_by at effects = state-effects effects at in
    let files : file_trace exec_semantics FILE_LINES moment left ≡ [] = no_lines FILE_LINES moment left (ap (λ (it : ExecState). it.files) leads ∙ keeps.1) in
    asks_both (effects_trace effects) (file_trace exec_semantics FILE_LINES moment left)
    ∙ ap (λ first. first || asks (file_trace exec_semantics FILE_LINES moment left)) (asks_effects effects ∙ keeps.0)
    ∙ ap (λ it. asks it) files

-- of the keys of a file that is typed in control-Z alone writes it
abbrev is_written : DataTurn → Bool
is_written turns.Write = true
is_written turn = false

written : (turn : DataTurn) → is_written turn ≡ true → turn ≡ turns.Write
written turns.More is = absurd (cc)
written turns.Write is = refl
written turns.Dropped is = absurd (cc)

typed_wants : (interpreter : InterpreterState) (typing : Typing) (turn : DataTurn) → wants (typed_effects interpreter typing turn) ≡ is_written turn
unfolding typed_effects
typed_wants interpreter typing turns.More = refl
typed_wants interpreter typing turns.Write = refl
typed_wants interpreter typing turns.Dropped = refl

keys_want : (interpreter : InterpreterState) (key : ℕ) (typing : Option Typing) → wants (raw_by interpreter key typing) ≡ true → key ≡ 26
keys_want interpreter key None is = absurd (cc)
keys_want interpreter key (Some typing) is =
    writes_at typing.typed key
    (written (turn_of (echo_of typing.typed key))
    (sym (typed_wants interpreter (record typing { typed = bytes_after typing.typed key }) (turn_of (echo_of typing.typed key))) ∙ is))

counts_want : (at : ExecState) (answer : Acted) → wants (counts at answer) ≡ false
counts_want at (answers.Refused code) = refl
counts_want at answer = refl

raw_wants : (at : ExecState) (key : ℕ) → wants (raw_effects at key) ≡ true → key ≡ 26
raw_wants at key is =
    let effects = raw_by at.interpreter key at.interpreter.typing in
    let left = record at { interpreter = left_by at.interpreter effects } in
    let more = counts left (raw_answer at.interpreter key at.interpreter.typing) in
    let all : wants (raw_effects at key) ≡ wants effects =
    list_any-append (λ (effect : Effect ExecState). effect.may_allocate) (map (lifted at) effects) more
    ∙ ap (λ rest. wants (map (lifted at) effects) || rest) (counts_want left (raw_answer at.interpreter key at.interpreter.typing))
    ∙ or_none (wants (map (lifted at) effects)) ∙ wants_lifted at effects in
    keys_want at.interpreter key at.interpreter.typing (sym all ∙ is)

-- a key is one of a line, or a raw one
pub of_line : (at : RunState ExecState) (key : ℕ) (it : Mode) → is_line it ≡ true → keystroke_by exec_semantics at key it ≡ line_keystroke exec_semantics at key
of_line at key (mode.Line node prompt takes) line = refl
of_line at key mode.Raw line = absurd (cc)
of_line at key mode.Ended line = absurd (cc)

pub of_raw : (at : RunState ExecState) (key : ℕ) (it : Mode) → is_line it ≡ false → keystroke_by exec_semantics at key it ≡ raw_keystroke exec_semantics at key
of_raw at key (mode.Line node prompt takes) other = absurd (cc)
of_raw at key mode.Raw other = refl
of_raw at key mode.Ended other = refl

-- a key
module _ (logging : Bool) (at : RunState ExecState) (key : ℕ) where
  turn_asks : (to : Turn) → turn_at exec_semantics at key ≡ to → at.state.files ≡ [] → is_line (exec_semantics.mode_of at.state) ≡ true
      → asks (turn_outcome exec_semantics at.state (session_at exec_semantics at key) (moment_of exec_semantics at) to).events ≡ true
      → TakesMemory at key
  unfolding turn_outcome
  turn_asks turn.Confirmed is none line there = by (allocates (command_of_key at key)) refl where
    by : (takes : Bool) → allocates (command_of_key at key) ≡ takes → TakesMemory at key
    by true takes = inr (record { line = line; confirmed = is; takes = takes })
    by false free =
        let both : true ≡ false = sym there ∙ confirmed_keeps at.state (session_at exec_semantics at key) (moment_of exec_semantics at) none free in absurd (cc)
  turn_asks (turn.Refused fault) is none line there = absurd (cc)
  turn_asks turn.Abandoned is none line there = absurd (cc)
  turn_asks turn.Edited is none line there = absurd (cc)
  turn_asks turn.Failed is none line there = absurd (cc)

  pub key_asks : at.state.files ≡ [] → asks (key_trace exec_semantics logging at key) ≡ true → TakesMemory at key
  unfolding line_keystroke raw_keystroke
  key_asks none there = by (is_line (exec_semantics.mode_of at.state)) refl where
    events : asks (keystroke exec_semantics at key).outcome.events ≡ true
    events = sym (asks_keystroke exec_semantics logging at.state (keystroke exec_semantics at key)) ∙ there

    by : (line : Bool) → is_line (exec_semantics.mode_of at.state) ≡ line → TakesMemory at key
    by true is =
        turn_asks (turn_at exec_semantics at key) refl none is
        (subst (λ (s : Keystroke ExecState). asks s.outcome.events ≡ true) (of_line at key (exec_semantics.mode_of at.state) is) events)
    by false is =
        inl (
          is,
          raw_wants at.state key (sym (asks_effects (raw_effects at.state key))
              ∙ subst (λ (s : Keystroke ExecState). asks s.outcome.events ≡ true) (of_raw at key (exec_semantics.mode_of at.state) is) events),
        )

-- between keys no file is open
pub quiet_progress : (keys : List ℕ) (at : RunState ExecState) → IsQuiet at.state → IsQuietUnlessEnded (progress exec_semantics at keys).state
unfolding progress
quiet_progress [] at quiet = λ going. quiet
quiet_progress (key ∷ keys) at quiet =
    by (is_ended (mode_of at.state.interpreter)) (step exec_semantics at key) (step_quiet at key quiet)
    (λ on. quiet_progress keys (step exec_semantics at key) on) where
      further : (next : RunState ExecState) → IsQuietUnlessEnded next.state
          → (IsQuiet next.state → IsQuietUnlessEnded (progress exec_semantics next keys).state) → (ended : Bool)
          → next.state.interpreter.ended ≡ ended → IsQuietUnlessEnded (progress exec_semantics next keys).state
      further next on again true is =
          subst (λ (it : RunState ExecState). IsQuietUnlessEnded it.state)
          (sym (progress_ended exec_semantics next keys (ended_where next.state ∙ is))) on
      further next on again false is = again (on is)

      by : (ended : Bool) (next : RunState ExecState) → IsQuietUnlessEnded next.state
          → (IsQuiet next.state → IsQuietUnlessEnded (progress exec_semantics next keys).state)
          → IsQuietUnlessEnded (cond ended at (progress exec_semantics next keys)).state
      by true next on again = λ going. quiet
      by false next on again = further next on again next.state.interpreter.ended refl

-- the last key at which memory ran out
pub last_takes : (logging : Bool) (start : State) (moments keys : List ℕ) (done rest : List (Event ExecState))
    → done ++ Memory ∷ rest ≡ exec_trace logging start moments keys → LastTakesMemory start moments (keys_of done)
last_takes logging start moments keys done rest same =
    let asked = asked_run exec_semantics logging (exec_start start) moments keys done rest same in
    let first = starting exec_semantics (exec_start start) moments in
    let at = met_by exec_semantics first (keys_of done) asked.last in
    let quiet : IsQuiet at.state =
    quiet_progress asked.last.first first (record { files = refl; taken = refl; waits = tt }) (sym (ended_where at.state) ∙ asked.last.going) in
    record { last = asked.last; takes = key_asks logging at asked.last.key quiet.files asked.there }

-- and of a run from image to image
module _ (known : Telling) (form : Form) (a b : Scene) (before now : Disk) where
  pub past_takes : (run : Past known exec_over form a b before now status.NoMemory) → IsTrue known.keys → IsTrue known.clock
      → (taken : List ℕ) × (taken ++ b.keys ≡ a.keys) × LastTakesMemory run.start a.moments taken
  unfolding Traces Performs
  past_takes run keys clock =
      let ran = run.ran in
      let stop : ran.stop ≡ Err stops.Memory
      = closes_memory ran.stop (has_ended exec_over run.left) ran.at.screen b.screen ran.at.faults.screen b.faults.screen status.NoMemory ran.closes refl in
      let cut : IsCut stops.Memory (seen a (exec_start run.start)) (seen ran.at run.left) (exec_trace form.logs run.start a.moments a.keys)
      = subst (λ (why : Result Unit Stop). Traces (seen a (exec_start run.start)) (seen ran.at run.left) (exec_trace form.logs run.start a.moments a.keys) why)
      stop (ran.traces (keys, clock)) in
      let is : cut.cut ≡ MemoryCut = is_memory cut.cut cut.cause in
      let split : cut.done ++ Memory ∷ cut.rest ≡ exec_trace form.logs run.start a.moments a.keys
      = ap (λ (it : Cut). cut.done ++ event_of it ∷ cut.rest) (sym is) ∙ cut.split in
      let taken : keys_of cut.done ++ ran.at.keys ≡ a.keys
      = ap (λ (it : List (Event ExecState)). keys_of it ++ ran.at.keys) (sym (append-nil cut.done))
      ∙ ap (λ (it : Cut). keys_of (cut.done ++ part_of it) ++ ran.at.keys) (sym is) ∙ cut.stands.keys in (
        keys_of cut.done,
        ap (λ (it : Scene). keys_of cut.done ++ it.keys) ran.rest ∙ taken,
        last_takes form.logs run.start a.moments a.keys cut.done cut.rest split,
      )
