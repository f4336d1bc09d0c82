-- Each key of a generated run leaves it going on.
use Rattle.std.proofs.Common.{◌≡◌, ◌⊎◌, inl, inr, ℕ, ◌+◌, ◌-◌, ◌==◌, ◌||◌, nat_le, length, slice_get, if◌then◌else◌, Bool, true, false, List, [], ◌∷◌, ◌++◌, map, Option, Some, None, refl, sym, ap, subst, ◌∙◌, arith, append_assoc}
use Rattle.std.proofs.lemmas.Bool.Decides.{nat_tests}
use Rattle.cm_lists.proofs.Bools.{cond_each}
use Rattle.cm_text.specs.Bytes.{is_text}
use Rattle.ex_generations.specs.declared.file.TheConstants.{FILE_LIMIT}
use Rattle.cm_line.specs.declared.key.KeyClass.{KeyClass}
use Rattle.cm_line.specs.declared.key.KeyClass.TheVariants.{Text, End, Join, Rub, Word, Escape, Other}
use Rattle.cm_line.specs.Keys.{class_at}
use Rattle.cm_blocks.specs.declared.field.Ending.{Ending}
use Rattle.cm_blocks.specs.declared.field.Ending.TheVariants as endings
use Rattle.cm_blocks.proofs.Parses.{parse_of_parses}
use Rattle.cm_state.specs.Edit.{completed, edit, edited_as}
use Rattle.cm_text.specs.Text.{finished}
use Rattle.cm_blocks.specs.Parse.{IsParse}
use Rattle.cm_state.specs.SessionState.{SessionState, line_before}
use Rattle.cm_state.specs.Turn.{end_turn, turn_of}
use Rattle.cm_state.specs.declared.turn.Turn.{Turn}
use Rattle.cm_state.specs.declared.turn.Turn.TheVariants as turn
use Rattle.cm_run.specs.declared.engine.TheConstants.{FILE_LINES}
use Rattle.cm_run.specs.declared.mode.Mode.{Mode}
use Rattle.cm_run.specs.declared.mode.Mode.TheVariants as mode
use Rattle.cm_run.specs.Event.{state_after}
use Rattle.cm_run.specs.Idle.{turn_at}
use Rattle.cm_run.specs.Keeping.{is_line}
use Rattle.cm_run.specs.Semantics.{Effect, setting_of}
use Rattle.cm_run.specs.Obey.{left_by}
use Rattle.cm_run.specs.Trace.{Keystroke, RunState, line_keystroke, line_start, next_session, node_of, raw_keystroke, step, step_by, step_of, turn_outcome}
use Rattle.cm_run.proofs.LineTurns.{confirmed_leads, edit_leads, moment_of, raw_leads, refusal_leads, session_at}
use Rattle.cm_run.proofs.Acts.{left_append}
use Rattle.cm_run.proofs.Screens.{state-effects}
use Rattle.ex_commands.specs.declared.acted.Acted.{Acted}
use Rattle.ex_commands.specs.declared.acted.Acted.TheVariants as answers
use Rattle.ex_take.proofs.Sequels.{left_lifted}
use Rattle.ex_grammar.specs.declared.node.TheConstants.{COMMANDS}
use Rattle.ex_store.specs.State.{catalogue_of}
use Rattle.ex_commands.specs.FileTyping.{bytes_after, echo_of, is_typed, rubbing}
use Rattle.ex_commands.specs.FileTyping as typed
use Rattle.ex_commands.specs.declared.data.DataTurn.{DataTurn}
use Rattle.ex_commands.specs.declared.data.DataTurn.TheVariants as turns
use Rattle.ex_take.specs.Exec.{counts, exec_semantics, lifted, line_effects, raw_effects}
use Rattle.ex_take.specs.ExecState.{ExecState}
use Rattle.ex_take.specs.Interpreter.{command_at, mode_by, mode_of, raw_answer, raw_by, typed_effects}
use Rattle.ex_take.specs.InterpreterState.{InterpreterState}
use Rattle.ex_take.specs.Quiet.{IsQuiet}
use Rattle.ex_take.specs.declared.pending.Pending.{Pending}
use Rattle.ex_take.specs.declared.typing.Typing.{Typing}
use Rattle.ex_take.proofs.QuietKeys.{step_quiet}
use Rattle.ex_program.proofs.Fronts.{Front, OfC, OfD, OfE, OfI, OfU, OfLi, letters}
use Rattle.ex_program.proofs.GeneratedKeyLaws.{GoesOn, line_on}
use Rattle.ex_program.proofs.Harmless.{is_safe, line_safe}
use Rattle.ex_program.proofs.LineKeys.{Edits, Ends, Is, Where, Fresh, Begun, Far, Ell, Lined, after, by_letter, go, is_edit, is_letter}
use Rattle.ex_commands.proofs.TypedEnds.{writes_at}
use Rattle.ex_program.proofs.MemoryKeys.{no_lines, of_line, of_raw}

-- how the run is before a key
pub record Holds (w : Where) (at : RunState ExecState) : Type 0 where
  pub quiet : IsQuiet at.state
  pub on : at.state.interpreter.ended ≡ false
  pub node : is_line (mode_of at.state.interpreter) ≡ true → at.session.node ≡ node_of (mode_of at.state.interpreter)
  pub line : is_line (mode_of at.state.interpreter) ≡ true → Is w (line_before at.session)

-- a line that begins
begins_empty : (it : Mode) (session : SessionState) → is_line it ≡ true → line_before (line_start it session) ≡ []
begins_empty (mode.Line node prompt takes) session line = refl
begins_empty mode.Raw session line = absurd (cc)
begins_empty mode.Ended session line = absurd (cc)

begins_node : (it : Mode) (session : SessionState) → is_line it ≡ true → (line_start it session).node ≡ node_of it
begins_node (mode.Line node prompt takes) session line = refl
begins_node mode.Raw session line = absurd (cc)
begins_node mode.Ended session line = absurd (cc)

module _ (at : RunState ExecState) (key : ℕ) where
  abbrev next : RunState ExecState
  next = step exec_semantics at key

  -- the run goes on at a line that begins
  begins : (left : ExecState) → next.state ≡ left → next.session ≡ line_start (mode_of next.state.interpreter) (session_at exec_semantics at key)
      → left.interpreter.ended ≡ false → IsQuiet at.state → Holds Fresh next
  begins left leads session on quiet =
      let going : next.state.interpreter.ended ≡ false = ap (λ (it : ExecState). it.interpreter.ended) leads ∙ on in
      record {
        quiet = step_quiet at key quiet going;
        on = going;
        node = λ line. ap (λ (it : SessionState). it.node) session ∙ begins_node (mode_of next.state.interpreter) _ line;
        line = λ line. inl (ap (λ (it : SessionState). line_before it) session ∙ begins_empty (mode_of next.state.interpreter) _ line);
      }

  -- where a turn leaves the session
  session_of : (to : Turn) → is_line (mode_of at.state.interpreter) ≡ true → turn_at exec_semantics at key ≡ to
      → next.session ≡ (step_of exec_semantics (session_at exec_semantics at key) at.state at.moments
      (turn_outcome exec_semantics at.state (session_at exec_semantics at key) (moment_of exec_semantics at) to)).session
  unfolding step_of line_keystroke
  session_of to line is =
      ap (λ (s : Keystroke ExecState). (step_by exec_semantics at s).session) (of_line at key (mode_of at.state.interpreter) line)
      ∙ ap (λ (it : Turn). (step_of exec_semantics (session_at exec_semantics at key) at.state at.moments
      (turn_outcome exec_semantics at.state (session_at exec_semantics at key) (moment_of exec_semantics at) it)).session) is

  refused_session : (to : Turn) → (turn_outcome exec_semantics at.state (session_at exec_semantics at key) (moment_of exec_semantics at) to).begins ≡ true
      → is_line (mode_of at.state.interpreter) ≡ true → turn_at exec_semantics at key ≡ to
      → next.session ≡ line_start (mode_of next.state.interpreter) (session_at exec_semantics at key)
  unfolding step_of line_keystroke
  refused_session to starts line is =
      let outcome = turn_outcome exec_semantics at.state (session_at exec_semantics at key) (moment_of exec_semantics at) to in
      let state : next.state ≡ state_after at.state outcome.events
      = ap (λ (s : Keystroke ExecState). (step_by exec_semantics at s).state) (of_line at key (mode_of at.state.interpreter) line)
      ∙ ap (λ (it : Turn). state_after at.state (turn_outcome exec_semantics at.state (session_at exec_semantics at key) (moment_of exec_semantics at) it).events) is in
      session_of to line is
      ∙ ap (λ (test : Bool). next_session test (mode_of (state_after at.state outcome.events).interpreter) (session_at exec_semantics at key)) starts
      ∙ ap (λ (it : ExecState). line_start (mode_of it.interpreter) (session_at exec_semantics at key)) (sym state)

-- what a key makes of the session
edited_line : (at : RunState ExecState) (key : ℕ) (class : KeyClass) → class_at (line_before at.session) key ≡ class → is_edit class ≡ true
    → line_before (session_at exec_semantics at key)
    ≡ edit class key (line_before at.session) at.session.recall (completed (setting_of exec_semantics at.state) at.session Escape).bytes
unfolding edited_as
edited_line at key class is edits =
    ap (λ (it : KeyClass). line_before (edited_as (setting_of exec_semantics at.state) at.session it key)) is ∙ by class edits where
      by : (class : KeyClass) → is_edit class ≡ true → line_before (edited_as (setting_of exec_semantics at.state) at.session class key)
          ≡ edit class key (line_before at.session) at.session.recall (completed (setting_of exec_semantics at.state) at.session Escape).bytes
      by Text edits = refl
      by Rub edits = refl
      by Word edits = refl
      by Escape edits = refl
      by Other edits = refl
      by Join edits = refl
      by class edits = absurd (cc)

finished_line : (at : RunState ExecState) (key : ℕ) → class_at (line_before at.session) key ≡ End → line_before (session_at exec_semantics at key) ≡ []
unfolding edited_as
finished_line at key is = ap (λ (it : KeyClass). line_before (edited_as (setting_of exec_semantics at.state) at.session it key)) is

same_node : (at : RunState ExecState) (key : ℕ) → (session_at exec_semantics at key).node ≡ at.session.node
unfolding edited_as
same_node at key = refl

edit_turn : (class : KeyClass) (ending : Ending) → is_edit class ≡ true → turn_of class ending ≡ turn.Edited
edit_turn Text ending edits = refl
edit_turn Rub ending edits = refl
edit_turn Word ending edits = refl
edit_turn Escape ending edits = refl
edit_turn Other ending edits = refl
edit_turn Join ending edits = refl
edit_turn class ending edits = absurd (cc)

-- a line that goes on
stays : (v : Where) (at : RunState ExecState) (key : ℕ) → is_line (mode_of at.state.interpreter) ≡ true → turn_at exec_semantics at key ≡ turn.Edited
    → Is v (line_before (session_at exec_semantics at key)) → (w : Where) → Holds w at → Holds v (step exec_semantics at key)
unfolding step_of turn_outcome
stays v at key line is there w holds =
    let state : (step exec_semantics at key).state ≡ at.state = edit_leads exec_semantics at key line is in
    let session : (step exec_semantics at key).session ≡ session_at exec_semantics at key = session_of at key turn.Edited line is in
    let going : (step exec_semantics at key).state.interpreter.ended ≡ false = ap (λ (it : ExecState). it.interpreter.ended) state ∙ holds.on in
    record {
      quiet = step_quiet at key holds.quiet going;
      on = going;
      node = λ _. ap (λ (it : SessionState). it.node) session ∙ same_node at key ∙ holds.node line
          ∙ ap (λ (it : ExecState). node_of (mode_of it.interpreter)) (sym state);
      line = λ _. subst (λ (it : SessionState). Is v (line_before it)) (sym session) there;
    }

-- the letters that a line begins with
front_of : (first : ℕ) → is_letter first ≡ true → (f : Front) × ((rest : List ℕ) → first ∷ rest ≡ letters f ++ rest)
front_of first is =
    by_letter (λ (first : ℕ). (f : Front) × ((rest : List ℕ) → first ∷ rest ≡ letters f ++ rest)) (OfC, λ rest. refl) (OfD, λ rest. refl)
    (OfE, λ rest. refl) (OfI, λ rest. refl) (OfU, λ rest. refl) first is

fronted : (line : List ℕ) → Is Lined line → (f : Front) × (rest : List ℕ) × (line ≡ letters f ++ rest)
fronted line (inl it) = (OfLi, it.0, it.1)
fronted line (inr it) = let front = front_of it.0 it.2 in (front.0, it.1, it.3 ∙ front.1 it.1)

-- a main line begins at the first node
main_node : (ended : Bool) (typing : Option Typing) (pending : Option Pending) → is_line (mode_by ended typing pending) ≡ true → pending ≡ None
    → node_of (mode_by ended typing pending) ≡ COMMANDS
main_node true typing pending line none = absurd (cc)
main_node false (Some typing) pending line none = absurd (cc)
main_node false None None line none = refl
main_node false None (Some pending) line none = absurd (cc)

-- what a confirmed line commands
safe_line : (at : RunState ExecState) (key : ℕ) → class_at (line_before at.session) key ≡ End → Is Lined (line_before at.session)
    → at.session.node ≡ COMMANDS → is_safe (command_at at.state.interpreter (session_at exec_semantics at key)) ≡ true
unfolding edited_as
safe_line at key is begins node =
    let s = setting_of exec_semantics at.state in
    let held = at.session in
    let front = fronted (line_before held) begins in
    let text : finished (line_before held) ≡ letters front.0 ++ (front.1 ++ 13 ∷ [])
    = ap (λ (it : List ℕ). finished it) front.2 ∙ append_assoc (letters front.0) front.1 (13 ∷ []) in
    let ended = edited_as s held End key in
    let parse : IsParse s COMMANDS (letters front.0 ++ (front.1 ++ 13 ∷ [])) ended.fields ended.ending
    = subst (λ (it : List ℕ). IsParse s COMMANDS it ended.fields ended.ending) text
    (subst (λ (n : ℕ). IsParse s n (finished (line_before held)) ended.fields ended.ending) node
    (parse_of_parses s held.node (finished (line_before held)))) in
    ap (λ (class : KeyClass). is_safe (command_at at.state.interpreter (edited_as s held class key))) is
    ∙ line_safe (catalogue_of at.state.interpreter.state) front.0 (front.1 ++ 13 ∷ []) _ ended.ending parse

-- a line that is finished
ends_line : (at : RunState ExecState) (key : ℕ) → is_line (mode_of at.state.interpreter) ≡ true → Ends (line_before at.session) key Fresh
    → (w : Where) → Holds w at → Holds Fresh (step exec_semantics at key)
unfolding turn_outcome line_effects
ends_line at key line ends w holds = by (session_at exec_semantics at key).ending refl where
  turn_is : (ending : Ending) → (session_at exec_semantics at key).ending ≡ ending → turn_at exec_semantics at key ≡ end_turn ending
  turn_is ending is = ap (λ (class : KeyClass). turn_of class (session_at exec_semantics at key).ending) ends.class_is ∙ ap (λ (it : Ending). end_turn it) is

  effects : List (Effect ExecState)
  effects = line_effects at.state (session_at exec_semantics at key) (moment_of exec_semantics at)

  goes : GoesOn (left_by at.state effects)
  goes =
      line_on at.state (session_at exec_semantics at key) (moment_of exec_semantics at) at.state.interpreter.pending holds.quiet.waits
      (λ none. safe_line at key ends.class_is ends.begins
      (holds.node line ∙ main_node at.state.interpreter.ended at.state.interpreter.typing at.state.interpreter.pending line none))
      (record { files = holds.quiet.files; on = holds.on })

  by : (ending : Ending) → (session_at exec_semantics at key).ending ≡ ending → Holds Fresh (step exec_semantics at key)
  by (endings.Open place) is = stays Fresh at key line (turn_is _ is) (inl (finished_line at key ends.class_is)) w holds
  by (endings.Fault fault) is =
      begins at key _ (refusal_leads exec_semantics at key fault line (turn_is _ is)) (refused_session at key (turn.Refused fault) refl line (turn_is _ is)) holds.on holds.quiet
  by endings.Done is =
      begins at key (left_by at.state effects)
      (confirmed_leads exec_semantics at key line (turn_is _ is)
      ∙ ap (λ events. state_after (left_by at.state effects) events) (no_lines FILE_LINES (moment_of exec_semantics at) (left_by at.state effects) goes.files))
      (refused_session at key turn.Confirmed refl line (turn_is _ is)) goes.on holds.quiet

-- a key of a line
line_holds : (w v : Where) (at : RunState ExecState) (key : ℕ) → go w key ≡ Some v → is_line (mode_of at.state.interpreter) ≡ true → Holds w at
    → Holds v (step exec_semantics at key)
line_holds w v at key is line holds =
    by (after (completed (setting_of exec_semantics at.state) at.session Escape).bytes at.session.recall w v (line_before at.session) key is (holds.line line)) where
      by : Ends (line_before at.session) key v
          ⊎ Edits (line_before at.session) (completed (setting_of exec_semantics at.state) at.session Escape).bytes at.session.recall key v
          → Holds v (step exec_semantics at key)
      by (inl ends) =
          subst (λ (v : Where). Holds v (step exec_semantics at key)) (sym ends.to_is)
          (ends_line at key line (subst (λ (v : Where). Ends (line_before at.session) key v) ends.to_is ends) w holds)
      by (inr edits) =
          stays v at key line
          (ap (λ (class : KeyClass). turn_of class (session_at exec_semantics at key).ending) edits.class_is
          ∙ edit_turn edits.class (session_at exec_semantics at key).ending edits.edits)
          (subst (λ (line : List ℕ). Is v line) (sym (edited_line at key edits.class edits.class_is edits.edits)) edits.there) w holds

-- a raw key: only control-Z and control-C end the typing
is_dropped : DataTurn → Bool
is_dropped turns.Dropped = true
is_dropped it = false

-- what is chosen drops nothing where neither does
choice : {E : Type 0} (f : E → DataTurn) (test : Bool) (one other : E) → is_dropped (f one) ≡ false → is_dropped (f other) ≡ false
    → is_dropped (f (if test then one else other)) ≡ false
choice f true one other here there = here
choice f false one other here there = there

chosen : {E : Type 0} (f : E → DataTurn) (put line rub write stop fits room : Bool) (it byte bell end rubbed written dropped : E)
    → it ≡ (if put then (if fits then byte else bell) else (if line then (if room then end else bell) else (if rub then rubbed
    else (if write then written else (if stop then dropped else bell)))))
    → is_dropped (f byte) ≡ false → is_dropped (f bell) ≡ false → is_dropped (f end) ≡ false → is_dropped (f rubbed) ≡ false
    → is_dropped (f written) ≡ false → stop ≡ false → is_dropped (f it) ≡ false
chosen f put line rub write stop fits room it byte bell end rubbed written dropped same of_byte of_bell of_end of_rubbed of_written other =
    ap (λ echo. is_dropped (f echo)) same
    ∙ choice f put _ _ (choice f fits byte bell of_byte of_bell)
    (choice f line _ _ (choice f room end bell of_end of_bell) (choice f rub rubbed _ of_rubbed (choice f write written _ of_written
    (ap (λ (test : Bool). is_dropped (f (if test then dropped else bell))) other ∙ of_bell))))

rubbing_more : (last : Option ℕ) → is_dropped (typed.turn_of (rubbing last)) ≡ false
unfolding is_dropped
rubbing_more None = refl
rubbing_more (Some last) = cond_each (λ it. is_dropped (typed.turn_of it) ≡ false) (last == 10) _ _ refl refl

never_dropped : (bytes : List ℕ) (key : ℕ) → (key == 3) ≡ false → is_dropped (typed.turn_of (echo_of bytes key)) ≡ false
unfolding is_dropped echo_of
never_dropped bytes key other =
    chosen typed.turn_of (is_typed key) (key == 13 || key == 10) (key == 127) (key == 26) (key == 3) (nat_le (length bytes + 1) FILE_LIMIT)
    (nat_le (length bytes + 2) FILE_LIMIT) (echo_of bytes key) _ _ _ _ _ _ refl refl refl refl
    (rubbing_more (slice_get bytes (length bytes - 1))) refl other

not_dropped : (bytes : List ℕ) (key : ℕ) → (key == 3) ≡ false → typed.turn_of (echo_of bytes key) ≡ turns.Dropped → ⊥
unfolding is_dropped
not_dropped bytes key other is = let both : false ≡ true = sym (never_dropped bytes key other) ∙ ap is_dropped is in cc

goes_26 : (w v : Where) → go w 26 ≡ Some v → Fresh ≡ v
unfolding is_text
goes_26 Fresh v is = cc
goes_26 Begun v is = absurd (cc)
goes_26 Far v is = absurd (cc)
goes_26 Ell v is = absurd (cc)
goes_26 Lined v is = absurd (cc)

goes_3 : (w v : Where) → go w 3 ≡ Some v → ⊥
unfolding is_text
goes_3 Fresh v is = cc
goes_3 Begun v is = cc
goes_3 Far v is = cc
goes_3 Ell v is = cc
goes_3 Lined v is = cc

-- what a raw key leaves
typed_on : (interpreter : InterpreterState) (it : Typing) (to : DataTurn) → (left_by interpreter (typed_effects interpreter it to)).ended ≡ interpreter.ended
unfolding typed_effects
typed_on interpreter it turns.More = refl
typed_on interpreter it turns.Write = refl
typed_on interpreter it turns.Dropped = refl

keys_on : (interpreter : InterpreterState) (key : ℕ) (typing : Option Typing) → (left_by interpreter (raw_by interpreter key typing)).ended ≡ interpreter.ended
keys_on interpreter key None = refl
keys_on interpreter key (Some it) =
    typed_on interpreter (record it { typed = bytes_after it.typed key }) (typed.turn_of (echo_of it.typed key))

counts_keep : (at : ExecState) (answer : Acted) → (left_by at (counts at answer)).interpreter ≡ at.interpreter
counts_keep at (answers.Refused code) = refl
counts_keep at answer = refl

raw_interpreter : (at : ExecState) (key : ℕ) → (left_by at (raw_effects at key)).interpreter
    ≡ left_by at.interpreter (raw_by at.interpreter key at.interpreter.typing)
raw_interpreter at key =
    let effects = raw_by at.interpreter key at.interpreter.typing in
    let left = record at { interpreter = left_by at.interpreter effects } in
    let answer = raw_answer at.interpreter key at.interpreter.typing in
    ap (λ (it : ExecState). it.interpreter) (left_append (map (lifted at) effects) (counts left answer) at)
    ∙ ap (λ (it : ExecState). (left_by it (counts left answer)).interpreter) (left_lifted at effects at.interpreter)
    ∙ counts_keep left answer

-- the typing goes on, but at control-Z and control-C
still_raw : (interpreter : InterpreterState) (it : Typing) (to : DataTurn) → to ≡ turns.More
    → is_line (mode_of (left_by interpreter (typed_effects interpreter it to))) ≡ true → interpreter.ended ≡ false → ⊥
unfolding typed_effects
still_raw interpreter it to is line on =
    let raw : is_line (mode_of (left_by interpreter (typed_effects interpreter it to))) ≡ is_line (mode_by interpreter.ended (Some it) interpreter.pending)
    = ap (λ (to : DataTurn). is_line (mode_of (left_by interpreter (typed_effects interpreter it to)))) is in
    let none : is_line (mode_by interpreter.ended (Some it) interpreter.pending) ≡ false
    = ap (λ (ended : Bool). is_line (mode_by ended (Some it) interpreter.pending)) on in
    let both : true ≡ false = sym line ∙ raw ∙ none in cc

ends_typing : (w v : Where) (interpreter : InterpreterState) (key : ℕ) (typing : Option Typing) → go w key ≡ Some v → interpreter.ended ≡ false
    → interpreter.typing ≡ typing → is_line (mode_of interpreter) ≡ false → is_line (mode_of (left_by interpreter (raw_by interpreter key typing))) ≡ true → Fresh ≡ v
ends_typing w v interpreter key None is on typing raw line = let both : true ≡ false = sym line ∙ raw in absurd (cc)
ends_typing w v interpreter key (Some it) is on typing raw line = by (typed.turn_of (echo_of it.typed key)) refl where
  by : (to : DataTurn) → typed.turn_of (echo_of it.typed key) ≡ to → Fresh ≡ v
  by turns.More to = absurd (still_raw interpreter (record it { typed = bytes_after it.typed key }) _ to line on)
  by turns.Write to = goes_26 w v (ap (λ (key : ℕ). go w key) (sym (writes_at it.typed key to)) ∙ is)
  by turns.Dropped to = absurd (three (key == 3) refl) where
    is_three : (key == 3) ≡ true → key ≡ 3
    is_three same = grind (arith, nat_tests, same)

    three : (test : Bool) → (key == 3) ≡ test → ⊥
    three true same = goes_3 w v (ap (λ (key : ℕ). go w key) (sym (is_three same)) ∙ is)
    three false other = not_dropped it.typed key other to

raw_holds : (w v : Where) (at : RunState ExecState) (key : ℕ) → go w key ≡ Some v → is_line (mode_of at.state.interpreter) ≡ false → Holds w at
    → Holds v (step exec_semantics at key)
unfolding step_of raw_keystroke
raw_holds w v at key is raw holds =
    let state : (step exec_semantics at key).state ≡ left_by at.state (raw_effects at.state key) = raw_leads exec_semantics at key raw in
    let interpreter : (step exec_semantics at key).state.interpreter ≡ left_by at.state.interpreter (raw_by at.state.interpreter key at.state.interpreter.typing)
    = ap (λ (it : ExecState). it.interpreter) state ∙ raw_interpreter at.state key in
    let session : (step exec_semantics at key).session ≡ line_start (mode_of (left_by at.state (raw_effects at.state key)).interpreter) at.session
    = ap (λ (s : Keystroke ExecState). (step_by exec_semantics at s).session) (of_raw at key (mode_of at.state.interpreter) raw)
    ∙ ap (λ (it : ExecState). line_start (mode_of it.interpreter) at.session) (state-effects (raw_effects at.state key) at.state) in
    let here : (step exec_semantics at key).session ≡ line_start (mode_of (step exec_semantics at key).state.interpreter) at.session
    = session ∙ ap (λ (it : ExecState). line_start (mode_of it.interpreter) at.session) (sym state) in
    let going : (step exec_semantics at key).state.interpreter.ended ≡ false
    = ap (λ (it : InterpreterState). it.ended) interpreter ∙ keys_on at.state.interpreter key at.state.interpreter.typing ∙ holds.on in
    record {
      quiet = step_quiet at key holds.quiet going;
      on = going;
      node = λ line. ap (λ (it : SessionState). it.node) here ∙ begins_node _ at.session line;
      line = λ line. subst (λ (v : Where). Is v (line_before (step exec_semantics at key).session))
          (ends_typing w v at.state.interpreter key at.state.interpreter.typing is holds.on refl raw
          (ap (λ (it : InterpreterState). is_line (mode_of it)) (sym interpreter) ∙ line))
          (inl (ap (λ (it : SessionState). line_before it) here ∙ begins_empty _ at.session line));
    }

pub step_holds : (w v : Where) (at : RunState ExecState) (key : ℕ) → go w key ≡ Some v → Holds w at → Holds v (step exec_semantics at key)
step_holds w v at key is holds = by (is_line (mode_of at.state.interpreter)) refl where
  by : (line : Bool) → is_line (mode_of at.state.interpreter) ≡ line → Holds v (step exec_semantics at key)
  by true line = line_holds w v at key is line holds
  by false raw = raw_holds w v at key is raw holds
