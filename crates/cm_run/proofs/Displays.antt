-- What the keys of a run make of a display.
-- screen_bytes (opening ..) in a signature does not tell its state: opening {S = S}.
use Rattle.std.proofs.Common.{◌≡◌, ℕ, zero, suc, Bool, true, false, cond, List, [], ◌∷◌, ◌++◌, Option, None, Some, IfSome, inl, refl, ap, sym, subst, ◌∙◌, append_assoc, append-nil}
use Rattle.std.specs.List.{flat_map}
use Rattle.std.proofs.lemmas.Grind.{flat_map-append}
use Rattle.cm_text.specs.Text.{IsLine, finished}
use Rattle.cm_io.specs.Display.{IsDisplay}
use Rattle.cm_line.specs.declared.key.KeyClass.{KeyClass}
use Rattle.cm_line.specs.declared.key.KeyClass.TheVariants.{End, Stop}
use Rattle.cm_line.specs.Keys.{class_at, is_end}
use Rattle.cm_blocks.specs.declared.field.Ending.{Ending}
use Rattle.cm_blocks.specs.declared.field.Ending.TheVariants as ending
use Rattle.cm_blocks.specs.Parse.{IsClosed, parse_of}
use Rattle.cm_blocks.specs.Setting.{Setting}
use Rattle.cm_blocks.proofs.Closure.{finished_closes}
use Rattle.cm_state.specs.declared.prompt.Prompt.{Prompt}
use Rattle.cm_state.specs.declared.prompt.Prompt.TheVariants.{Main}
use Rattle.cm_state.specs.Echo.{echo, prompt_text}
use Rattle.cm_state.specs.Edit.{completed, edit, edited, edited_as}
use Rattle.cm_state.specs.SessionState.{SessionState, at_start, line_before}
use Rattle.cm_state.specs.Turn.{turn_of}
use Rattle.cm_state.specs.declared.turn.Turn.{Turn}
use Rattle.cm_run.specs.declared.engine.TheConstants.{FILE_LINES}
use Rattle.cm_run.specs.declared.mode.Mode.{Mode}
use Rattle.cm_run.specs.declared.mode.Mode.TheVariants as mode
use Rattle.cm_run.specs.Event.{Act, Event, event_screen, screen_bytes, state_after}
use Rattle.cm_run.specs.Semantics.{Semantics, setting_of}
use Rattle.cm_run.specs.Obey.{left_by, replies}
use Rattle.cm_run.specs.Progress.{MeetSound, progress}
use Rattle.cm_run.specs.Sound.{IsSound}
use Rattle.cm_run.specs.Trace.{Outcome, RunState, effects_trace, events_if, file_line_trace, file_session, file_trace, is_ended, key_trace, keystroke_by, keystroke_trace, line_keystroke, line_start, line_trace, moment_at, next_line, opening, raw_keystroke, run_state, run_trace, starting, step, step_by, step_of, turn_outcome}
use Rattle.cm_run.proofs.Screens.{keys_shown, screen-effects, screen-keystroke, shown_key, shown_none, shown_run, shown_ended, state-effects}
use Rattle.cm_run.specs.Keeping.{HasPrintedPrompt, IsLineKeeping, IsLineKeepingWhile, KeepsLine, ShowsIn, is_line}
use Rattle.cm_run.specs.Shows.{EndsLine, IsClear, IsEnded, Shows, ShowsAfter, prompt_and_line}
use Rattle.cm_run.proofs.LineEnds.{ends_both}
use Rattle.cm_run.proofs.Echoes.{fed_none, key_clears, key_shows, reply_shows, start_is_clear, start_shows}

-- a finished line is done or refused
closed : (s : Setting) → IsSound s → (held : SessionState) (key : ℕ) (class : KeyClass) → class ≡ End
    → IsClosed (edited_as s held class key).ending
unfolding edited_as
closed s sound held key class end =
    subst (λ it. IsClosed (parse_of s held.node (cond (is_end it) (finished (edit it key (line_before held) held.recall (completed s held it).bytes))
    (edit it key (line_before held) held.recall (completed s held it).bytes))).ending)
    (sym end) (finished_closes s sound.grammar held.node (edit End key (line_before held) held.recall (completed s held End).bytes))

module _ {S : Type 0} (Kept : S → Type 0) (m : Semantics S) (keeping : IsLineKeepingWhile Kept m) where
  -- what lines of command files show
  file_ends : (moment : ℕ) (state : S) (line : Option (List ℕ)) → EndsLine (screen_bytes (file_line_trace m moment state line))
  file_ends moment state None = inl refl
  file_ends moment state (Some line) =
      subst EndsLine (sym (screen-effects (m.file_line_effects state (file_session m state line) moment)))
      (keeping.file_lines state (file_session m state line) moment)

  files_end : (lines moment : ℕ) (state : S) → EndsLine (screen_bytes (file_trace m lines moment state))
  unfolding file_trace
  files_end zero moment state = inl refl
  files_end (suc lines) moment state =
      let events = file_line_trace m moment state (next_line m state) in
      let more = file_trace m lines moment (state_after state events) in
      subst EndsLine (sym (flat_map-append event_screen events more))
      (ends_both (screen_bytes events) (screen_bytes more) (file_ends moment state (next_line m state)) (files_end lines moment (state_after state events)))

  -- and what a line shows, with those that it takes
  line_ends : (state : S) (session : SessionState) (moment : ℕ) → EndsLine (screen_bytes (line_trace m state session moment))
  unfolding line_trace
  line_ends state session moment =
      let acts = effects_trace (m.line_effects state session moment) in
      let more = file_trace m FILE_LINES moment (state_after state acts) in
      subst EndsLine (sym (flat_map-append event_screen acts more))
      (ends_both (screen_bytes acts) (screen_bytes more)
      (subst EndsLine (sym (screen-effects (m.line_effects state session moment))) (keeping.lines state session moment))
      (files_end FILE_LINES moment (state_after state acts)))

  -- what is shown after the echo of a key of a line
  abbrev shown_of : S → Outcome S → List ℕ
  shown_of state o = screen_bytes o.events ++ screen_bytes {S = S} (events_if o.begins (opening (m.mode_of (state_after state o.events))))

  -- and the state that its outcome leaves
  abbrev left_after : S → ℕ → SessionState → Turn → S
  left_after state moment session turn = state_after state (turn_outcome m state session moment turn).events

  module _ {D : Type 0} (feed : D → List ℕ → D) (Holds : D → List ℕ → Type 0) (is_display : IsDisplay feed Holds) where
    -- between two keys: where the next is for a line, the display shows it
    ShownBy : Mode → D → SessionState → Type 0
    ShownBy (mode.Line node prompt takes_moment) display session = IsClear session × Shows Holds display session
    ShownBy mode.Raw display session = Unit {0}
    ShownBy mode.Ended display session = Unit {0}

    record Keeps (display : D) (at : RunState S) : Type 0 where
      recall : IfSome at.session.recall IsLine
      shows : ShownBy (m.mode_of at.state) display at.session

    -- no bytes leave what is kept
    keeps_on : (display : D) (at : RunState S) → Keeps display at → Keeps (feed display []) at
    unfolding ShownBy
    keeps_on display at keeps = record { recall = keeps.recall; shows = by (m.mode_of at.state) keeps.shows }
      where
        by : (it : Mode) → ShownBy it display at.session → ShownBy it (feed display []) at.session
        by (mode.Line node prompt takes) shown =
            (shown.0, fed_none feed Holds is_display display (prompt_and_line at.session) shown.1)
        by mode.Raw shown = tt
        by mode.Ended shown = tt

    -- a line begins where the display holds nothing
    begins : (display : D) (state : S) (moments : List ℕ) (session : SessionState) → Kept state → IfSome session.recall IsLine
        → (is_line (m.mode_of state) ≡ true → Holds display [])
        → Keeps (feed display (screen_bytes (opening {S = S} (m.mode_of state)))) (run_state (line_start (m.mode_of state) session) state moments)
    unfolding ShownBy
    begins display state moments session kept recall blank = by (m.mode_of state) refl (keeping.prompts state kept) blank
      where
        by : (it : Mode) → m.mode_of state ≡ it → HasPrintedPrompt it → (is_line it ≡ true → Holds display [])
            → Keeps (feed display (flat_map event_screen (opening {S = S} it))) (run_state (line_start it session) state moments)
        by (mode.Line node prompt takes_moment) is printed holds = record {
          recall = recall;
          shows = subst (λ it. ShownBy it (feed display (prompt_text prompt ++ [])) (at_start node prompt session.recall)) (sym is) (
            start_is_clear node prompt session.recall printed recall,
            subst (λ bytes. Shows Holds (feed display bytes) (at_start node prompt session.recall)) (sym (append-nil (prompt_text prompt)))
                (start_shows feed Holds is_display display (holds refl) node prompt session.recall printed),
          );
        }
        by mode.Raw is printed holds = record {
          recall = recall;
          shows = subst (λ it. ShownBy it (feed display []) session) (sym is) tt;
        }
        by mode.Ended is printed holds = record {
          recall = recall;
          shows = subst (λ it. ShownBy it (feed display []) session) (sym is) tt;
        }

    -- after the echo of a key something happens that ends its line, and the next line begins
    next_begins : (display : D) (session : SessionState) (state : S) (moments : List ℕ) (takes : Bool) (events : List (Event S))
        → Kept (state_after state events) → IfSome session.recall IsLine → Holds display [] → EndsLine (screen_bytes events)
        → Keeps (feed display (screen_bytes events ++ screen_bytes (opening {S = S} (m.mode_of (state_after state events)))))
        (step_of m session state moments (record { takes_moment = takes; events = events; begins = true }))
    unfolding step_of
    next_begins display session state moments takes events kept recall holds ends =
        let left = state_after state events in
        subst (λ (it : D). Keeps it (step_of m session state moments (record { takes_moment = takes; events = events; begins = true })))
        (sym (is_display.turns display (screen_bytes events) (screen_bytes (opening {S = S} (m.mode_of left)))))
        (begins (feed display (screen_bytes events)) left _ session kept recall (λ is. reply_shows feed Holds is_display display (screen_bytes events) ends holds))

    -- or nothing does, and the line goes on
    line_goes_on : (display : D) (session : SessionState) (state : S) (moments : List ℕ) → Keeps display (run_state session state moments)
        → Keeps (feed display ([] ++ [])) (step_of m session state moments (record { takes_moment = false; events = []; begins = false }))
    unfolding step_of
    line_goes_on display session state moments keeps = keeps_on display (run_state session state moments) keeps

    module _ (display : D) (session : SessionState) (state : S) (moments : List ℕ) (moment : ℕ) (clear : IsClear session)
        (line : (to : D) → Shows Holds to session → Keeps to (run_state session state moments)) where
      by_ending : (ends : Ending) → Kept (left_after state moment session (turn_of End ends)) → IsClosed ends → Holds display []
          → Keeps (feed display (shown_of state (turn_outcome m state session moment (turn_of End ends))))
          (step_of m session state moments (turn_outcome m state session moment (turn_of End ends)))
      unfolding turn_outcome
      by_ending (ending.Open place) kept is holds = absurd is
      by_ending ending.Done kept is holds = next_begins display session state moments _ (line_trace m state session moment) kept clear.recall holds (line_ends state session moment)
      by_ending (ending.Fault fault) kept is holds = next_begins display session state moments false (Act (m.refusal state) ∷ []) kept clear.recall holds (inl refl)

      by_turn : (class : KeyClass) (ends : Ending) → Kept (left_after state moment session (turn_of class ends))
          → (class ≡ End → IsClosed ends) → ShowsAfter Holds class display session
          → Keeps (feed display (shown_of state (turn_outcome m state session moment (turn_of class ends))))
          (step_of m session state moments (turn_outcome m state session moment (turn_of class ends)))
      unfolding turn_outcome
      by_turn End ends kept is holds = by_ending ends kept (is refl) holds
      by_turn Stop ends kept is holds = next_begins display session state moments false (Act (m.abandonment state) ∷ []) kept clear.recall holds (inl refl)
      by_turn class ends kept is shows = line_goes_on display session state moments (line display shows)

    -- a key of a line
    line_keeps : (logging : Bool) (at : RunState S) (key : ℕ) (display : D) (node : ℕ) (prompt : Prompt) (takes : Bool)
        → m.mode_of at.state ≡ mode.Line node prompt takes → Kept (step_by m at (line_keystroke m at key)).state
        → IsSound (setting_of m at.state) → IsClear at.session → Shows Holds display at.session
        → Keeps (feed display (screen_bytes (keystroke_trace m logging at.state (line_keystroke m at key)))) (step_by m at (line_keystroke m at key))
    unfolding line_keystroke step_of ShownBy
    line_keeps logging at key display node prompt takes is kept sound clear shows =
        let under = setting_of m at.state in
        let session = edited under at.session key in
        let left : IsClear session = key_clears under sound at.session key clear in
        let o = turn_outcome m at.state session (moment_at m at.state at.moments) (turn_of (class_at (line_before at.session) key) session.ending) in
        subst (λ bytes. Keeps (feed display bytes) (step_of m session at.state at.moments o)) (sym (screen-keystroke m logging at.state (line_keystroke m at key)))
        (subst (λ (it : D). Keeps it (step_of m session at.state at.moments o)) (sym (is_display.turns display (echo under at.session key) (shown_of at.state o)))
        (by_turn (feed display (echo under at.session key)) session at.state at.moments (moment_at m at.state at.moments) left
        (λ to shown. record { recall = left.recall; shows = subst (λ it. ShownBy it to session) (sym is) (left, shown) })
        (class_at (line_before at.session) key) session.ending kept
        (λ end. closed under sound at.session key (class_at (line_before at.session) key) end)
        (key_shows feed Holds is_display under sound at.session key clear display shows)))

    -- a raw key
    raw_keeps : (logging : Bool) (at : RunState S) (key : ℕ) (display : D) → m.mode_of at.state ≡ mode.Raw
        → Kept (step_by m at (raw_keystroke m at key)).state → IfSome at.session.recall IsLine
        → Keeps (feed display (screen_bytes (keystroke_trace m logging at.state (raw_keystroke m at key)))) (step_by m at (raw_keystroke m at key))
    unfolding raw_keystroke step_of
    raw_keeps logging at key display is kept recall =
        let effects = m.raw_effects at.state key in
        let left = left_by at.state effects in
        let begun = state_after at.state (effects_trace effects) in
        let leads : begun ≡ left = state-effects effects at.state in
        let opens = screen_bytes (opening {S = S} (m.mode_of begun)) in
        let bytes : screen_bytes (keystroke_trace m logging at.state (raw_keystroke m at key)) ≡ (m.raw_echo at.state key ++ replies effects) ++ opens =
        screen-keystroke m logging at.state (raw_keystroke m at key)
        ∙ ap (λ shown. m.raw_echo at.state key ++ (shown ++ opens)) (screen-effects effects)
        ∙ sym (append_assoc (m.raw_echo at.state key) (replies effects) opens) in
        subst (λ shown. Keeps (feed display shown) (step_by m at (raw_keystroke m at key))) (sym bytes)
        (subst (λ (it : D). Keeps it (step_by m at (raw_keystroke m at key))) (sym (is_display.turns display (m.raw_echo at.state key ++ replies effects) opens))
        (begins (feed display (m.raw_echo at.state key ++ replies effects)) begun at.moments at.session kept recall
        (λ line. raw_blank display (m.raw_echo at.state key ++ replies effects)
        (keeping.raw_keys at.state key is (subst (λ (to : S). is_line (m.mode_of to) ≡ true) leads line)))))
      where
        raw_blank : (display : D) (bytes : List ℕ) → IsEnded bytes → Holds (feed display bytes) []
        raw_blank display bytes ended = subst (λ it. Holds (feed display it) []) ended.ends (is_display.line_feeds display ended.front)

    -- a key of a run
    key_keeps : (logging : Bool) (at : RunState S) (key : ℕ) (display : D) → is_ended (m.mode_of at.state) ≡ false
        → Kept at.state → IsSound (setting_of m at.state) → Keeps display at
        → Keeps (feed display (screen_bytes (key_trace m logging at key))) (step m at key)
    unfolding ShownBy
    key_keeps logging at key display going kept sound keeps = by (m.mode_of at.state) refl (keeping.kept at key going kept) keeps.shows
      where
        by : (it : Mode) → m.mode_of at.state ≡ it → Kept (step_by m at (keystroke_by m at key it)).state → ShownBy it display at.session
            → Keeps (feed display (screen_bytes (keystroke_trace m logging at.state (keystroke_by m at key it)))) (step_by m at (keystroke_by m at key it))
        by (mode.Line node prompt takes) is left shown = line_keeps logging at key display node prompt takes is left sound shown.0 shown.1
        by mode.Raw is left shown = raw_keeps logging at key display is left keeps.recall
        by mode.Ended is left shown = let ended : true ≡ false = sym (ap is_ended is) ∙ going in absurd (cc)

    -- and keys in turn
    keys_keep : (logging : Bool) (keys : List ℕ) (at : RunState S) (display : D) → Kept at.state → MeetSound m at keys → Keeps display at
        → Keeps (feed display (keys_shown m logging at keys)) (progress m at keys)
    unfolding MeetSound progress
    keys_keep logging [] at display kept met keeps =
        subst (λ bytes. Keeps (feed display bytes) at) (sym (shown_none m logging at)) (keeps_on display at keeps)
    keys_keep logging (key ∷ keys) at display kept met keeps =
        by (is_ended (m.mode_of at.state)) refl (λ to left meets shows. keys_keep logging keys (step m at key) to left meets shows)
      where
        by : (test : Bool) → is_ended (m.mode_of at.state) ≡ test
            → ((to : D) → Kept (step m at key).state → MeetSound m (step m at key) keys → Keeps to (step m at key)
            → Keeps (feed to (keys_shown m logging (step m at key) keys)) (progress m (step m at key) keys))
            → Keeps (feed display (keys_shown m logging at (key ∷ keys))) (cond test at (progress m (step m at key) keys))
        by true is later =
            subst (λ bytes. Keeps (feed display bytes) at) (sym (shown_ended m logging at (key ∷ keys) is)) (keeps_on display at keeps)
        by false is later =
            let first = screen_bytes (key_trace m logging at key) in
            let more = keys_shown m logging (step m at key) keys in
            subst (λ bytes. Keeps (feed display bytes) (progress m (step m at key) keys)) (sym (shown_key m logging at key keys is))
            (subst (λ (it : D). Keeps it (progress m (step m at key) keys)) (sym (is_display.turns display first more))
            (later (feed display first) (keeping.kept at key is kept) (met is).1 (key_keeps logging at key display is kept (met is).0 keeps)))

    as_shown : (display : D) (at : RunState S) (it : Mode) → ShownBy it display at.session → ShowsIn Holds it display at.session
    unfolding ShownBy
    as_shown display at (mode.Line node prompt takes) shown = shown.1
    as_shown display at mode.Raw shown = tt
    as_shown display at mode.Ended shown = tt

    -- a run keeps prompt and line on the display
    pub run_keeps_while : (state : S) (moments keys : List ℕ) → Kept state → MeetSound m (starting m state moments) keys
        → KeepsLine feed Holds m state moments keys
    unfolding KeepsLine
    run_keeps_while state moments keys kept met = λ logging display holds.
        let start = starting m state moments in
        let first = screen_bytes (opening {S = S} (m.mode_of state)) in
        let more = keys_shown m logging start keys in
        let end = progress m start keys in
        let keeps : Keeps (feed (feed display first) more) end =
        keys_keep logging keys start (feed display first) kept met (begins display state moments (at_start 0 Main None) kept tt (λ line. holds)) in
        as_shown (feed display (screen_bytes (run_trace m logging state moments keys))) end (m.mode_of end.state)
        (subst (λ bytes. ShownBy (m.mode_of end.state) (feed display bytes) end.session) (sym (shown_run m logging state moments keys))
        (subst (λ (it : D). ShownBy (m.mode_of end.state) it end.session) (sym (is_display.turns display first more)) keeps.shows))

-- and so does that of an application whose prompts are always printed
pub run_keeps : {S : Type 0} (m : Semantics S) → IsLineKeeping m → {D : Type 0} (feed : D → List ℕ → D) (Holds : D → List ℕ → Type 0)
    → IsDisplay feed Holds → (state : S) (moments keys : List ℕ) → MeetSound m (starting m state moments) keys
    → KeepsLine feed Holds m state moments keys
run_keeps {S = S} m keeping feed Holds is_display state moments keys met =
    run_keeps_while (λ (state : S). Unit {0}) m keeping feed Holds is_display state moments keys tt met
