-- A run over the keys of lines of the EXEC's, and a control file of the same lines.
use Rattle.std.proofs.Common.{◌≡◌, ◌≤◌, ℕ, zero, suc, ◌+◌, ◌&&◌, ◌||◌, nat_le, Bool, true, false, List, [], ◌∷◌, ◌++◌, map, length, append_assoc, append-nil, Option, None, Some, refl, sym, ap, ◌∙◌, subst, arith}
use Rattle.std.specs.Prelude.{if◌then◌else◌}
use Rattle.std.specs.List.{flat_map, fold, list_all, list_any}
use Rattle.std.proofs.lemmas.Bool.Decides.{nat_tests}
use Rattle.std.proofs.lemmas.Grind.{flat_map-append}
use Rattle.std.proofs.lemmas.List.Sums.{fold-append}
use Rattle.cm_text.specs.Bytes.{is_text}
use Rattle.cm_text.specs.ScreenBytes.{end_of_line, screen_byte}
use Rattle.cm_text.specs.Text.{ends_in_hyphen, finished}
use Rattle.cm_text.specs.declared.text.TheConstants.{LINE_LIMIT}
use Rattle.cm_io.specs.Clock.{later_moments, next_moment}
use Rattle.cm_blocks.specs.FieldView.{FieldView}
use Rattle.cm_blocks.specs.Parse.{open_at}
use Rattle.cm_blocks.specs.declared.field.Ending.{Ending}
use Rattle.cm_state.specs.Echo.{prompt_text}
use Rattle.cm_state.specs.SessionState.{SessionState}
use Rattle.cm_state.specs.declared.prompt.Prompt.TheVariants.{Main}
use Rattle.cm_run.specs.Event.{Act, Event, Memory, Screen, event_screen, moments_after, moments_after_event, screen_bytes, state_after, state_after_event}
use Rattle.cm_run.specs.Semantics.{Effect}
use Rattle.cm_run.specs.Progress.{progress}
use Rattle.cm_run.specs.Trace.{RunState, effect_trace, effects_trace, events_if, file_line_trace, file_session, file_trace, is_ended, line_start, line_trace, next_line, opening, run_state, starting, step}
use Rattle.cm_run.specs.declared.engine.TheConstants.{FILE_LINES}
use Rattle.cm_run.specs.declared.mode.Mode.{Mode}
use Rattle.cm_run.proofs.Prefixes.{run_leads}
use Rattle.cm_run.proofs.Progress.{progress_ended, progress_key}
use Rattle.cm_run.proofs.Screens.{keys_shown, shown_ended, shown_key, shown_none, shown_run}
use Rattle.ex_grammar.specs.declared.node.TheConstants.{COMMANDS}
use Rattle.ex_take.specs.Exec.{exec_semantics}
use Rattle.ex_take.specs.ExecState.{ExecState}
use Rattle.ex_take.specs.Interpreter.{mode_by}
use Rattle.ex_take.specs.Taking.{is_at_rest}
use Rattle.ex_take.proofs.Rests.{rest_goes_on}
use Rattle.ex_batch.specs.Batch.{batch_of, shown}
use Rattle.ex_batch.specs.TypedRuns.{AreAccepted, IsAccepted, RunsAlike, TypedLine, all_events, file_bytes, in_file, last_prompt, line_keys, shown_events, typed_bytes, typed_events, typed_lines}
use Rattle.ex_batch.specs.declared.batch.TheConstants.{CONTROL_LINES}
use Rattle.ex_batch.proofs.LineKeys.{IsTyped, end_shows, end_step, goes_on, line_starts, mode_rest, starts_typing, types, typing}
use Rattle.ex_batch.proofs.Rests.{text_rests}
use Rattle.ex_batch.proofs.TypedLines.{accepted_as, file_as_typed, parsable_of}

-- what a line does takes no moment
effect_moments : (may : Bool) (state : ExecState) (reply moments : List ℕ) (more : List (Event ExecState))
    → fold moments_after_event moments ((events_if may (Memory ∷ []) ++ (Act state ∷ Screen reply ∷ [])) ++ more) ≡ fold moments_after_event moments more
effect_moments true state reply moments more = refl
effect_moments false state reply moments more = refl

effects_moments : (effects : List (Effect ExecState)) (moments : List ℕ) → moments_after moments (effects_trace effects) ≡ moments
unfolding effects_trace
effects_moments [] moments = refl
effects_moments (effect ∷ effects) moments =
    effect_moments effect.may_allocate effect.state effect.reply moments (flat_map effect_trace effects) ∙ effects_moments effects moments

line_moments : (moment : ℕ) (at : ExecState) (line : Option (List ℕ)) (moments : List ℕ)
    → moments_after moments (file_line_trace exec_semantics moment at line) ≡ moments
line_moments moment at None moments = refl
line_moments moment at (Some line) moments = effects_moments (exec_semantics.file_line_effects at (file_session exec_semantics at line) moment) moments

files_moments : (lines moment : ℕ) (at : ExecState) (moments : List ℕ) → moments_after moments (file_trace exec_semantics lines moment at) ≡ moments
unfolding file_trace
files_moments zero moment at moments = refl
files_moments (suc lines) moment at moments =
    let events = file_line_trace exec_semantics moment at (next_line exec_semantics at) in
    let more = file_trace exec_semantics lines moment (state_after at events) in
    fold-append moments_after_event moments events more
    ∙ ap (λ (it : List ℕ). moments_after it more) (line_moments moment at (next_line exec_semantics at) moments)
    ∙ files_moments lines moment (state_after at events) moments

trace_moments : (at : ExecState) (session : SessionState) (moment : ℕ) (moments : List ℕ) → moments_after moments (line_trace exec_semantics at session moment) ≡ moments
unfolding line_trace
trace_moments at session moment moments =
    let acts = effects_trace (exec_semantics.line_effects at session moment) in
    let more = file_trace exec_semantics FILE_LINES moment (state_after at acts) in
    fold-append moments_after_event moments acts more
    ∙ ap (λ (it : List ℕ). moments_after it more) (effects_moments (exec_semantics.line_effects at session moment) moments)
    ∙ files_moments FILE_LINES moment (state_after at acts) moments

-- the bytes of a line and of those after it
regroup : (prompt line end replies rest : List ℕ)
    → prompt ++ (line ++ ((end ++ (replies ++ (prompt ++ []))) ++ rest)) ≡ (prompt ++ (line ++ (end ++ replies))) ++ (prompt ++ rest)
regroup prompt line end replies rest = simp (append_assoc, append-nil)

ungroup : (prompt line end replies : List ℕ) → prompt ++ (line ++ ((end ++ (replies ++ [])) ++ [])) ≡ prompt ++ (line ++ (end ++ replies))
ungroup prompt line end replies = simp append-nil

neither : (one other : Bool) → (one || other) ≡ false → (one ≡ false) × (other ≡ false)
neither true other is = absurd (cc)
neither false other is = (refl, is)

both : (one other : Bool) → (one && other) ≡ true → (one ≡ true) × (other ≡ true)
both true other is = (refl, is)
both false other is = absurd (cc)

-- where these keys lead, and what they show
record Ends (logging : Bool) (keys : List ℕ) (lines : List TypedLine) (moments : List ℕ) (at : ExecState) (from : RunState ExecState) : Type 0 where
  state : (progress exec_semantics from keys).state ≡ state_after at (all_events lines)
  moments_left : (progress exec_semantics from keys).moments ≡ moments_after moments (all_events lines)
  shows : prompt_text Main ++ keys_shown exec_semantics logging from keys
      ≡ flat_map typed_bytes lines ++ last_prompt (state_after at (all_events lines))

module _ (logging : Bool) (text keys : List ℕ) (moments : List ℕ) (at : ExecState) (fields : List FieldView) (ending : Ending) (recall : Option (List ℕ))
    (rests : is_at_rest at ≡ true) (accepted : IsAccepted moments at text) (plain : ends_in_hyphen text ≡ false) where
  abbrev session : SessionState
  session = file_session exec_semantics at text

  abbrev trace : List (Event ExecState)
  trace = line_trace exec_semantics at session (next_moment moments)

  abbrev left : ExecState
  left = state_after at trace

  abbrev from : RunState ExecState
  from = run_state (typing [] fields ending recall) at moments

  abbrev to : RunState ExecState
  to = run_state (line_start (exec_semantics.mode_of left) session) left (later_moments moments)

  abbrev line : TypedLine
  line = record { text = text; events = typed_events moments at text }

  typed : IsTyped at rests logging moments (typing [] fields ending recall) [] text
  typed =
      let is = both (nat_le (length text) LINE_LIMIT) (list_all is_text text) (parsable_of moments at text rests accepted) in
      let short = is.0 in
      types at rests logging moments text [] fields ending recall is.1 (grind (arith, nat_tests))

  abbrev met : RunState ExecState
  met = run_state (typing text typed.fields typed.ending typed.recall) at moments

  in_order : finished text ++ keys ≡ text ++ 13 ∷ keys
  in_order = append_assoc text (13 ∷ []) keys

  goes_to : progress exec_semantics from (finished text ++ keys) ≡ progress exec_semantics to keys
  goes_to =
      ap (λ (it : List ℕ). progress exec_semantics from it) in_order
      ∙ typed.leads (13 ∷ keys)
      ∙ ap (λ (it : List ℕ). progress exec_semantics (run_state (typing it typed.fields typed.ending typed.recall) at moments) (13 ∷ keys)) typed.joined
      ∙ progress_key exec_semantics met 13 keys (goes_on at rests)
      ∙ ap (λ (it : RunState ExecState). progress exec_semantics it keys)
      (end_step at rests logging moments text typed.fields typed.ending typed.recall plain accepted.parse)

  abbrev shown_of : List ℕ → List ℕ → List ℕ
  shown_of next rest = prompt_text Main ++ (map screen_byte text ++ ((end_of_line ++ (screen_bytes trace ++ next)) ++ rest))

  shows_to : prompt_text Main ++ keys_shown exec_semantics logging from (finished text ++ keys)
      ≡ shown_of (screen_bytes {S = ExecState} (opening (exec_semantics.mode_of left))) (keys_shown exec_semantics logging to keys)
  shows_to =
      ap (λ (bytes : List ℕ). prompt_text Main ++ bytes)
      (ap (λ (it : List ℕ). keys_shown exec_semantics logging from it) in_order
      ∙ typed.shows (13 ∷ keys)
      ∙ ap (λ (it : List ℕ). map screen_byte text
      ++ keys_shown exec_semantics logging (run_state (typing it typed.fields typed.ending typed.recall) at moments) (13 ∷ keys)) typed.joined
      ∙ ap (λ (bytes : List ℕ). map screen_byte text ++ bytes)
      (shown_key exec_semantics logging met 13 keys (goes_on at rests)
      ∙ ap (λ (bytes : List ℕ). bytes ++ keys_shown exec_semantics logging (step exec_semantics met 13) keys)
      (end_shows at rests logging moments text typed.fields typed.ending typed.recall plain accepted.parse)
      ∙ ap (λ (it : RunState ExecState). (end_of_line ++ (screen_bytes trace ++ screen_bytes {S = ExecState} (opening (exec_semantics.mode_of left))))
      ++ keys_shown exec_semantics logging it keys)
      (end_step at rests logging moments text typed.fields typed.ending typed.recall plain accepted.parse)))

  line_takes : moments_after moments line.events ≡ later_moments moments
  line_takes = trace_moments at session (next_moment moments) (later_moments moments)

  -- LOGOUT has acted
  ends_here : left.interpreter.ended ≡ true → Ends logging (finished text ++ keys) (line ∷ []) moments at from
  ends_here over =
      let ended : is_ended (exec_semantics.mode_of left) ≡ true
      = ap (λ (it : Bool). is_ended (mode_by it left.interpreter.typing left.interpreter.pending)) over in
      let stays : progress exec_semantics from (finished text ++ keys) ≡ to = goes_to ∙ progress_ended exec_semantics to keys ended in
      let none : screen_bytes {S = ExecState} (opening (exec_semantics.mode_of left)) ≡ []
      = ap (λ (it : Bool). screen_bytes {S = ExecState} (opening (mode_by it left.interpreter.typing left.interpreter.pending))) over in
      let alone : line.events ++ [] ≡ line.events = append-nil line.events in
      let last : last_prompt (state_after at (line.events ++ [])) ≡ []
      = ap (λ (it : List (Event ExecState)). last_prompt (state_after at it)) alone ∙ ap (λ (it : Bool). if it then [] else prompt_text Main) over in
      record {
        state = ap (λ (it : RunState ExecState). it.state) stays ∙ sym (ap (λ (it : List (Event ExecState)). state_after at it) alone);
        moments_left = ap (λ (it : RunState ExecState). it.moments) stays
            ∙ sym (ap (λ (it : List (Event ExecState)). moments_after moments it) alone ∙ line_takes);
        shows = shows_to ∙ ap (λ (it : List ℕ). shown_of it (keys_shown exec_semantics logging to keys)) none
            ∙ ap (λ (it : List ℕ). shown_of [] it) (shown_ended exec_semantics logging to keys ended)
            ∙ ungroup (prompt_text Main) (map screen_byte text) end_of_line (screen_bytes trace)
            ∙ sym (ap (λ (it : List ℕ). (typed_bytes line ++ []) ++ it) last ∙ append-nil (typed_bytes line ++ []) ∙ append-nil (typed_bytes line));
      }

  -- or other lines are typed
  ends_later : (more : List TypedLine) → is_at_rest left ≡ true
      → Ends logging keys more (later_moments moments) left (run_state (typing [] [] (open_at COMMANDS 0) session.recall) left (later_moments moments))
      → Ends logging (finished text ++ keys) (line ∷ more) moments at from
  ends_later more next_rests ends =
      let begins : to ≡ run_state (typing [] [] (open_at COMMANDS 0) session.recall) left (later_moments moments)
      = ap (λ (it : SessionState). run_state it left (later_moments moments)) (line_starts left next_rests session) in
      let goes : progress exec_semantics from (finished text ++ keys)
      ≡ progress exec_semantics (run_state (typing [] [] (open_at COMMANDS 0) session.recall) left (later_moments moments)) keys
      = goes_to ∙ ap (λ (it : RunState ExecState). progress exec_semantics it keys) begins in
      let prompts : screen_bytes {S = ExecState} (opening (exec_semantics.mode_of left)) ≡ prompt_text Main ++ []
      = ap (λ (it : Mode). screen_bytes {S = ExecState} (opening it)) (mode_rest left next_rests) in
      let both_states : state_after at (line.events ++ all_events more) ≡ state_after left (all_events more)
      = fold-append state_after_event at line.events (all_events more) in
      record {
        state = ap (λ (it : RunState ExecState). it.state) goes ∙ ends.state ∙ sym both_states;
        moments_left = ap (λ (it : RunState ExecState). it.moments) goes ∙ ends.moments_left
            ∙ sym (fold-append moments_after_event moments line.events (all_events more)
            ∙ ap (λ (it : List ℕ). moments_after it (all_events more)) line_takes);
        shows = shows_to ∙ ap (λ (it : List ℕ). shown_of it (keys_shown exec_semantics logging to keys)) prompts
            ∙ ap (λ (it : RunState ExecState). shown_of (prompt_text Main ++ []) (keys_shown exec_semantics logging it keys)) begins
            ∙ regroup (prompt_text Main) (map screen_byte text) end_of_line (screen_bytes trace) _
            ∙ ap (λ (it : List ℕ). typed_bytes line ++ it) ends.shows
            ∙ sym (append_assoc (typed_bytes line) (flat_map typed_bytes more) (last_prompt (state_after left (all_events more))))
            ∙ ap (λ (it : ExecState). (typed_bytes line ++ flat_map typed_bytes more) ++ last_prompt it) (sym both_states);
      }

  -- so what waits is accepted after it
  accepted_later : (texts : List (List ℕ)) → AreAccepted moments at (text ∷ texts) → left.interpreter.ended ≡ false
      → AreAccepted (later_moments moments) left texts
  unfolding AreAccepted
  accepted_later texts all going =
      let same = accepted_as moments at text rests accepted in
      let later : left.interpreter.ended ≡ false → AreAccepted (moments_after moments line.events) left texts =
      subst (λ (events : List (Event ExecState)). (state_after at events).interpreter.ended ≡ false
      → AreAccepted (moments_after moments events) (state_after at events) texts) same all.1 in
      subst (λ (it : List ℕ). AreAccepted it left texts) line_takes (later going)

  left_rests : left.interpreter.ended ≡ false → is_at_rest left ≡ true
  left_rests going =
      let same = accepted_as moments at text rests accepted in
      subst (λ (events : List (Event ExecState)). (state_after at events).interpreter.ended ≡ false → is_at_rest (state_after at events) ≡ true) same
      (text_rests (next_moment moments) at rests text) going

ends_as : (logging : Bool) (texts : List (List ℕ)) (moments : List ℕ) (at : ExecState) (fields : List FieldView) (ending : Ending) (recall : Option (List ℕ))
    → is_at_rest at ≡ true → AreAccepted moments at texts → list_any ends_in_hyphen texts ≡ false
    → Ends logging (line_keys texts) (typed_lines moments at texts) moments at (run_state (typing [] fields ending recall) at moments)
unfolding typed_lines AreAccepted progress
ends_as logging [] moments at fields ending recall rests all plain = record {
  state = refl;
  moments_left = refl;
  shows =
      ap (λ (it : List ℕ). prompt_text Main ++ it) (shown_none exec_semantics logging (run_state (typing [] fields ending recall) at moments))
      ∙ append-nil (prompt_text Main)
      ∙ sym (ap (λ (it : Bool). if it then [] else prompt_text Main) (rest_goes_on at rests));
}
ends_as logging (text ∷ texts) moments at fields ending recall rests all plain =
    subst (λ (it : List ℕ). Ends logging (finished text ++ line_keys texts)
    (first ∷ (if after.interpreter.ended then [] else typed_lines it after texts)) moments at start)
    (sym (line_takes logging text (line_keys texts) moments at fields ending recall rests all.0 no_hyphens.0))
    (by (λ going. ends_as logging texts (later_moments moments) after [] (open_at COMMANDS 0) (file_session exec_semantics at text).recall
    (left_rests logging text (line_keys texts) moments at fields ending recall rests all.0 no_hyphens.0 going)
    (accepted_later logging text (line_keys texts) moments at fields ending recall rests all.0 no_hyphens.0 texts all going) no_hyphens.1)
    after.interpreter.ended refl)
  where
    first : TypedLine
    first = record { text = text; events = typed_events moments at text }

    after : ExecState
    after = state_after at (typed_events moments at text)

    start : RunState ExecState
    start = run_state (typing [] fields ending recall) at moments

    no_hyphens : (ends_in_hyphen text ≡ false) × (list_any ends_in_hyphen texts ≡ false)
    no_hyphens = neither (ends_in_hyphen text) (list_any ends_in_hyphen texts) plain

    by : (after.interpreter.ended ≡ false → Ends logging (line_keys texts) (typed_lines (later_moments moments) after texts) (later_moments moments) after
        (run_state (typing [] [] (open_at COMMANDS 0) (file_session exec_semantics at text).recall) after (later_moments moments)))
        → (ended : Bool) → after.interpreter.ended ≡ ended
        → Ends logging (finished text ++ line_keys texts) (first ∷ (if ended then [] else typed_lines (later_moments moments) after texts)) moments at start
    by more true is = ends_here logging text (line_keys texts) moments at fields ending recall rests all.0 no_hyphens.0 is
    by more false is =
        ends_later logging text (line_keys texts) moments at fields ending recall rests all.0 no_hyphens.0
        (typed_lines (later_moments moments) after texts)
        (left_rests logging text (line_keys texts) moments at fields ending recall rests all.0 no_hyphens.0 is) (more is)

-- what a control file shows
file_shows : (lines : List TypedLine) → screen_bytes (shown_events lines) ≡ flat_map file_bytes lines
file_shows [] = refl
file_shows (line ∷ lines) =
    flat_map-append event_screen (Screen (shown (in_file line.text)) ∷ line.events) (shown_events lines)
    ∙ ap (λ (it : List ℕ). file_bytes line ++ it) (file_shows lines)

pub runs_alike : (texts : List (List ℕ)) (moments : List ℕ) (at : ExecState) (logging : Bool) → is_at_rest at ≡ true → at.stop ≡ None
    → length texts ≤ CONTROL_LINES → AreAccepted moments at texts → list_any ends_in_hyphen texts ≡ false
    → RunsAlike moments at logging texts (batch_of (map in_file texts) moments at)
runs_alike texts moments at logging rests kept few all plain =
    let file = file_as_typed texts moments at rests kept few all in
    let ends = ends_as logging texts moments at [] (open_at COMMANDS 0) None rests all plain in
    let keys = line_keys texts in
    let begins : starting exec_semantics at moments ≡ run_state (typing [] [] (open_at COMMANDS 0) None) at moments = starts_typing at rests moments in
    let opens : screen_bytes {S = ExecState} (opening (exec_semantics.mode_of at)) ≡ prompt_text Main
    = ap (λ (it : Mode). screen_bytes {S = ExecState} (opening it)) (mode_rest at rests) ∙ append-nil (prompt_text Main) in
    record {
      state = run_leads exec_semantics logging at moments keys
          ∙ ap (λ (it : RunState ExecState). (progress exec_semantics it keys).state) begins ∙ ends.state ∙ sym file.state;
      moments = ap (λ (it : RunState ExecState). (progress exec_semantics it keys).moments) begins ∙ ends.moments_left ∙ sym file.moments;
      typed = shown_run exec_semantics logging at moments keys
          ∙ ap (λ (it : List ℕ). it ++ keys_shown exec_semantics logging (starting exec_semantics at moments) keys) opens
          ∙ ap (λ (it : RunState ExecState). prompt_text Main ++ keys_shown exec_semantics logging it keys) begins
          ∙ ends.shows
          ∙ ap (λ (it : ExecState). flat_map typed_bytes (typed_lines moments at texts) ++ last_prompt it) (sym file.state);
      shown = ap (λ (events : List (Event ExecState)). screen_bytes events) file.events ∙ file_shows (typed_lines moments at texts);
    }
