-- The keys of a line of the EXEC's that is typed where nothing is left to be done.
-- A line under edit is a record with any fields (typing). At rest the mode is an equation, along which step is
-- line_stroke; then ap over the class of the key. What a text does is a record over all keys after it (IsTyped), by
-- shown_key, shown_run and progress_key.
use Rattle.std.proofs.Common.{◌≡◌, ℕ, ◌+◌, ◌≤◌, ◌&&◌, nat_lt, Bool, true, false, cond, List, [], ◌∷◌, ◌++◌, map, length, length-append, append_assoc, append-nil, Option, None, refl, sym, ap, ◌∙◌, arith}
use Rattle.std.proofs.lemmas.Bool.Decides.{nat_tests}
use Rattle.std.specs.Prelude.{is_some}
use Rattle.std.specs.List.{list_all}
use Rattle.cm_text.specs.Bytes.{is_text}
use Rattle.cm_text.specs.ScreenBytes.{bell, end_of_line, screen_byte}
use Rattle.cm_text.specs.Text.{ends_in_hyphen}
use Rattle.cm_text.specs.declared.text.TheConstants.{LINE_LIMIT}
use Rattle.cm_io.specs.Clock.{later_moments, next_moment}
use Rattle.cm_line.specs.Keys.{class_at, class_of}
use Rattle.cm_line.specs.declared.key.KeyClass.{KeyClass}
use Rattle.cm_line.specs.declared.key.KeyClass.TheVariants.{End, Text}
use Rattle.cm_blocks.specs.FieldView.{FieldView}
use Rattle.cm_blocks.specs.Parse.{parse_of}
use Rattle.cm_blocks.specs.Setting.{Setting}
use Rattle.cm_blocks.specs.declared.field.Ending.{Ending}
use Rattle.cm_blocks.specs.declared.field.Ending.TheVariants as endings
use Rattle.cm_state.specs.Echo.{complaint, echo, echo_of, takes_join}
use Rattle.cm_state.specs.Edit.{completed, edited, edited_as}
use Rattle.cm_state.specs.SessionState.{SessionState, at_start}
use Rattle.cm_state.specs.Turn.{turn_of}
use Rattle.cm_state.specs.declared.prompt.Prompt.TheVariants.{Main}
use Rattle.cm_run.specs.Event.{screen_bytes, state_after}
use Rattle.cm_run.specs.Semantics.{setting_of}
use Rattle.cm_run.specs.Progress.{progress}
use Rattle.cm_run.specs.Trace.{Keystroke, Outcome, RunState, events_if, file_session, is_ended, key_trace, keystroke_by, line_keystroke, line_start, line_trace, moment_at, moment_if, node_of, opening, run_state, starting, step, step_by, step_of, takes_moment, turn_outcome}
use Rattle.cm_run.specs.declared.mode.Mode.{Mode}
use Rattle.cm_run.specs.declared.mode.Mode.TheVariants as mode
use Rattle.cm_run.proofs.Progress.{progress_key}
use Rattle.cm_run.proofs.Screens.{keys_shown, screen-keystroke, shown_key}
use Rattle.ex_grammar.specs.declared.node.TheConstants.{COMMANDS}
use Rattle.ex_take.specs.Exec.{exec_semantics}
use Rattle.ex_take.specs.ExecState.{ExecState}
use Rattle.ex_take.specs.Taking.{is_at_rest}
use Rattle.ex_take.proofs.Rests.{rest_goes_on, rest_pending, rest_typing}

-- a text byte is typed, and a carriage return ends a line after which no hyphen stands
text_class : (line : List ℕ) (key : ℕ) → is_text key ≡ true → class_at line key ≡ Text
unfolding class_at class_of
text_class line key is = rw is refl

end_class : (line : List ℕ) → ends_in_hyphen line ≡ false → class_at line 13 ≡ End
unfolding class_at class_of is_text
end_class line plain = rw plain refl

-- a main line that is under edit
abbrev pub typing : List ℕ → List FieldView → Ending → Option (List ℕ) → SessionState
typing line fields ending recall = record {
  node = COMMANDS;
  prompt = Main;
  line = line;
  is_finished = false;
  fields = fields;
  ending = ending;
  recall = recall;
}

module _ (at : ExecState) (rests : is_at_rest at ≡ true) where
  pub mode_rest : exec_semantics.mode_of at ≡ mode.Line COMMANDS Main true
  mode_rest = rw (rest_goes_on at rests, rest_typing at rests, rest_pending at rests) refl

  pub goes_on : is_ended (exec_semantics.mode_of at) ≡ false
  goes_on = ap is_ended mode_rest

  abbrev under : Setting
  under = setting_of exec_semantics at

  module _ (logging : Bool) (moments : List ℕ) (line : List ℕ) (fields : List FieldView) (ending : Ending) (recall : Option (List ℕ)) where
    abbrev held : SessionState
    held = typing line fields ending recall

    abbrev met : RunState ExecState
    met = run_state held at moments

    keystroke_as : (key : ℕ) → keystroke_by exec_semantics met key (exec_semantics.mode_of at) ≡ line_keystroke exec_semantics met key
    keystroke_as key = ap (λ (it : Mode). keystroke_by exec_semantics met key it) mode_rest

    -- a text byte is added to the line, and is shown
    module _ (key : ℕ) (text : is_text key ≡ true) (room : nat_lt (length line) LINE_LIMIT ≡ true) where
      abbrev longer : List ℕ
      longer = line ++ key ∷ []

      abbrev next : SessionState
      next = typing longer (parse_of under COMMANDS longer).fields (parse_of under COMMANDS longer).ending None

      edited_text : edited under held key ≡ next
      unfolding edited_as
      edited_text =
          ap (λ (it : KeyClass). edited_as under held it key) (text_class line key text)
          ∙ ap (λ (test : Bool). typing (cond test longer line) (parse_of under COMMANDS (cond test longer line)).fields
          (parse_of under COMMANDS (cond test longer line)).ending None) room

      text_outcome : (line_keystroke exec_semantics met key).outcome ≡ record { takes_moment = false; events = []; begins = false }
      unfolding line_keystroke turn_outcome
      text_outcome =
          ap (λ (it : KeyClass). turn_outcome exec_semantics at (edited under held key) (moment_at exec_semantics at moments)
          (turn_of it (edited under held key).ending)) (text_class line key text)

      session_as : (line_keystroke exec_semantics met key).session ≡ next
      unfolding line_keystroke
      session_as = edited_text

      pub text_step : step exec_semantics met key ≡ run_state next at moments
      unfolding step_of
      text_step =
          ap (λ (it : Keystroke ExecState). step_by exec_semantics met it) (keystroke_as key)
          ∙ ap (λ (it : Outcome ExecState). step_of exec_semantics (line_keystroke exec_semantics met key).session at moments it) text_outcome
          ∙ ap (λ (it : SessionState). run_state it at moments) session_as

      echo_text : (line_keystroke exec_semantics met key).echo ≡ screen_byte key ∷ []
      unfolding line_keystroke echo
      echo_text =
          ap (λ (it : KeyClass). echo_of under it key (length line) (takes_join it line) (is_some recall) (completed under held it).bell (edited under held key))
          (text_class line key text)
          ∙ ap (λ (test : Bool). cond test (screen_byte key ∷ []) bell) room

      pub text_shows : screen_bytes (key_trace exec_semantics logging met key) ≡ screen_byte key ∷ []
      text_shows =
          screen-keystroke exec_semantics logging at (keystroke_by exec_semantics met key (exec_semantics.mode_of at))
          ∙ ap (λ (it : Keystroke ExecState). it.echo ++ (screen_bytes it.outcome.events
          ++ screen_bytes {S = ExecState} (events_if it.outcome.begins (opening (exec_semantics.mode_of (state_after at it.outcome.events)))))) (keystroke_as key)
          ∙ ap (λ (it : Outcome ExecState). (line_keystroke exec_semantics met key).echo ++ (screen_bytes it.events
          ++ screen_bytes {S = ExecState} (events_if it.begins (opening (exec_semantics.mode_of (state_after at it.events)))))) text_outcome
          ∙ append-nil (line_keystroke exec_semantics met key).echo
          ∙ echo_text

    -- a carriage return ends it, and it acts
    module _ (plain : ends_in_hyphen line ≡ false) (done : (file_session exec_semantics at line).ending ≡ endings.Done) where
      abbrev session : SessionState
      session = file_session exec_semantics at line

      abbrev acts : Outcome ExecState
      acts = record { takes_moment = true; events = line_trace exec_semantics at session (next_moment moments); begins = true }

      edited_end : edited under held 13 ≡ session
      unfolding edited_as
      edited_end =
          ap (λ (it : KeyClass). edited_as under held it 13) (end_class line plain)
          ∙ ap (λ (it : Mode). edited_as under (record (at_start (node_of it) Main None) { line = line }) End 13) (sym mode_rest)

      end_outcome : (line_keystroke exec_semantics met 13).outcome ≡ acts
      unfolding line_keystroke turn_outcome
      end_outcome =
          ap (λ (it : SessionState). turn_outcome exec_semantics at it (moment_at exec_semantics at moments) (turn_of (class_at line 13) it.ending)) edited_end
          ∙ ap (λ (it : KeyClass). turn_outcome exec_semantics at session (moment_at exec_semantics at moments) (turn_of it session.ending)) (end_class line plain)
          ∙ ap (λ (it : Ending). turn_outcome exec_semantics at session (moment_at exec_semantics at moments) (turn_of End it)) done
          ∙ ap (λ (it : Mode). record { takes_moment = takes_moment it; events = line_trace exec_semantics at session (moment_if (takes_moment it) moments); begins = true }) mode_rest

      end_session : (line_keystroke exec_semantics met 13).session ≡ session
      unfolding line_keystroke
      end_session = edited_end

      abbrev pub left : ExecState
      left = state_after at (line_trace exec_semantics at session (next_moment moments))

      pub end_step : step exec_semantics met 13 ≡ run_state (line_start (exec_semantics.mode_of left) session) left (later_moments moments)
      unfolding step_of
      end_step =
          ap (λ (it : Keystroke ExecState). step_by exec_semantics met it) (keystroke_as 13)
          ∙ ap (λ (it : Outcome ExecState). step_of exec_semantics (line_keystroke exec_semantics met 13).session at moments it) end_outcome
          ∙ ap (λ (it : SessionState). run_state (line_start (exec_semantics.mode_of left) it) left (later_moments moments)) end_session

      echo_end : (line_keystroke exec_semantics met 13).echo ≡ end_of_line
      unfolding line_keystroke echo complaint
      echo_end =
          ap (λ (it : KeyClass). echo_of under it 13 (length line) (takes_join it line) (is_some recall) (completed under held it).bell (edited under held 13))
          (end_class line plain)
          ∙ ap (λ (it : SessionState). end_of_line ++ complaint under.graph it.line it.ending) edited_end
          ∙ ap (λ (it : Ending). end_of_line ++ complaint under.graph session.line it) done
          ∙ append-nil end_of_line

      pub end_shows : screen_bytes (key_trace exec_semantics logging met 13)
          ≡ end_of_line ++ (screen_bytes (line_trace exec_semantics at session (next_moment moments))
          ++ screen_bytes {S = ExecState} (opening (exec_semantics.mode_of left)))
      end_shows =
          screen-keystroke exec_semantics logging at (keystroke_by exec_semantics met 13 (exec_semantics.mode_of at))
          ∙ ap (λ (it : Keystroke ExecState). it.echo ++ (screen_bytes it.outcome.events
          ++ screen_bytes {S = ExecState} (events_if it.outcome.begins (opening (exec_semantics.mode_of (state_after at it.outcome.events)))))) (keystroke_as 13)
          ∙ ap (λ (it : Outcome ExecState). (line_keystroke exec_semantics met 13).echo ++ (screen_bytes it.events
          ++ screen_bytes {S = ExecState} (events_if it.begins (opening (exec_semantics.mode_of (state_after at it.events)))))) end_outcome
          ∙ ap (λ (bytes : List ℕ). bytes ++ (screen_bytes acts.events ++ screen_bytes {S = ExecState} (opening (exec_semantics.mode_of left)))) echo_end

  -- all bytes of a line
  module _ (logging : Bool) (moments : List ℕ) where
    pub record IsTyped (from : SessionState) (line text : List ℕ) : Type 0 where
      pub whole : List ℕ
      pub fields : List FieldView
      pub ending : Ending
      pub recall : Option (List ℕ)
      pub joined : whole ≡ line ++ text
      pub leads : (rest : List ℕ) → progress exec_semantics (run_state from at moments) (text ++ rest)
          ≡ progress exec_semantics (run_state (typing whole fields ending recall) at moments) rest
      pub shows : (rest : List ℕ) → keys_shown exec_semantics logging (run_state from at moments) (text ++ rest)
          ≡ map screen_byte text ++ keys_shown exec_semantics logging (run_state (typing whole fields ending recall) at moments) rest

    both : (one other : Bool) → (one && other) ≡ true → (one ≡ true) × (other ≡ true)
    both true other is = (refl, is)
    both false other is = absurd (cc)

    pub types : (text line : List ℕ) (fields : List FieldView) (ending : Ending) (recall : Option (List ℕ)) → list_all is_text text ≡ true
        → length line + length text ≤ LINE_LIMIT → IsTyped (typing line fields ending recall) line text
    types [] line fields ending recall all short = record {
      whole = line;
      fields = fields;
      ending = ending;
      recall = recall;
      joined = sym (append-nil line);
      leads = λ rest. refl;
      shows = λ rest. refl;
    }
    types (key ∷ text) line fields ending recall all short =
        let is = both (is_text key) (list_all is_text text) all in
        let room : nat_lt (length line) LINE_LIMIT ≡ true = grind (arith, nat_tests) in
        let longer = line ++ key ∷ [] in
        let parse = parse_of under COMMANDS longer in
        let size : length longer ≡ length line + 1 = length-append line (key ∷ []) in
        let more = types text longer parse.fields parse.ending None is.1 (omega (arith, short, size)) in
        let met = run_state (typing line fields ending recall) at moments in
        record {
          whole = more.whole;
          fields = more.fields;
          ending = more.ending;
          recall = more.recall;
          joined = more.joined ∙ append_assoc line (key ∷ []) text;
          leads = λ rest. progress_key exec_semantics met key (text ++ rest) goes_on
              ∙ ap (λ (it : RunState ExecState). progress exec_semantics it (text ++ rest)) (text_step logging moments line fields ending recall key is.0 room)
              ∙ more.leads rest;
          shows = λ rest. shown_key exec_semantics logging met key (text ++ rest) goes_on
              ∙ ap (λ (bytes : List ℕ). bytes ++ keys_shown exec_semantics logging (step exec_semantics met key) (text ++ rest))
              (text_shows logging moments line fields ending recall key is.0 room)
              ∙ ap (λ (it : RunState ExecState). screen_byte key ∷ keys_shown exec_semantics logging it (text ++ rest))
              (text_step logging moments line fields ending recall key is.0 room)
              ∙ ap (λ (bytes : List ℕ). screen_byte key ∷ bytes) (more.shows rest);
        }

  -- a run begins at such a line
  pub starts_typing : (moments : List ℕ) → starting exec_semantics at moments ≡ run_state (at_start COMMANDS Main None) at moments
  starts_typing moments = ap (λ (it : Mode). run_state (line_start it (at_start 0 Main None)) at moments) mode_rest

  pub line_starts : (session : SessionState) → line_start (exec_semantics.mode_of at) session ≡ at_start COMMANDS Main session.recall
  line_starts session = ap (λ (it : Mode). line_start it session) mode_rest
