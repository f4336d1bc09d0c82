-- At which keys of mail memory is asked for.
use Rattle.std.proofs.Common.{◌≡◌, inl, inr, ℕ, ◌||◌, Bool, true, false, List, [], ◌∷◌, ◌++◌, Option, None, Some, refl, sym, ap, subst, ◌∙◌}
use Rattle.std.specs.List.{list_any}
use Rattle.cm_state.specs.SessionState.{SessionState}
use Rattle.cm_state.specs.declared.turn.Turn.{Turn}
use Rattle.cm_state.specs.declared.turn.Turn.TheVariants as turn
use Rattle.cm_run.specs.declared.engine.TheConstants.{FILE_LINES}
use Rattle.cm_run.specs.declared.mode.Mode.{Mode}
use Rattle.cm_run.specs.declared.mode.Mode.TheVariants as mode
use Rattle.cm_run.specs.Event.{Event, Memory, keys_of, state_after}
use Rattle.cm_run.specs.Idle.{turn_at}
use Rattle.cm_run.specs.Keeping.{is_line}
use Rattle.cm_run.specs.LastKey.{met_by}
use Rattle.cm_run.specs.Semantics.{Effect}
use Rattle.cm_run.specs.Trace.{Keystroke, RunState, effects_trace, file_trace, key_trace, keystroke, keystroke_by, line_keystroke, line_trace, raw_keystroke, starting, turn_outcome}
use Rattle.cm_run.proofs.Fileless.{no_files}
use Rattle.cm_run.proofs.LineTurns.{moment_of, session_at}
use Rattle.cm_run.proofs.MemoryEvents.{asked_run, asks, asks_both, asks_effects, asks_keystroke}
use Rattle.ex_store.specs.State.{State}
use Rattle.ex_commands.specs.FileTyping.{bytes_after, echo_of, turn_of}
use Rattle.ex_commands.specs.declared.data.DataTurn.{DataTurn}
use Rattle.ex_commands.specs.declared.data.DataTurn.TheVariants as turns
use Rattle.ex_commands.proofs.TypedEnds.{writes_at}
use Rattle.mm_mail.specs.MailRun.{mail_trace}
use Rattle.mm_mail.specs.MailState.{MailState, mail_start}
use Rattle.mm_mail.specs.Semantics.{allocates, mail_semantics, raw_by, typed_effects}
use Rattle.mm_mail.specs.TakesMemory.{LastTakesMemory, TakesMemory, command_of_key}
use Rattle.mm_mail.specs.declared.message.Message.{Message}

-- for one of these acts memory may run out
abbrev wants : List (Effect MailState) → Bool
wants effects = list_any (λ (effect : Effect MailState). effect.may_allocate) effects

or_none : (a : Bool) → (a || false) ≡ a
or_none true = refl
or_none false = refl

-- a confirmed line asks for it where its command takes it
confirmed_asks : (mail : MailState) (session : SessionState) (moment : ℕ)
    → asks (line_trace mail_semantics mail session moment) ≡ wants (mail_semantics.line_effects mail session moment)
unfolding line_trace
confirmed_asks mail session moment =
    let acts = effects_trace (mail_semantics.line_effects mail session moment) in
    let rest = file_trace mail_semantics FILE_LINES moment (state_after mail acts) in
    let none : rest ≡ [] = no_files mail_semantics (λ state. refl) FILE_LINES moment (state_after mail acts) in
    asks_both acts rest ∙ ap (λ (events : List (Event MailState)). asks acts || asks events) none ∙ or_none (asks acts)
    ∙ asks_effects (mail_semantics.line_effects mail session moment)

-- of the keys of a message control-Z alone does
typed_wants : (mail : MailState) (message : Message) (turn : DataTurn) → wants (typed_effects mail message turn) ≡ true → turn ≡ turns.Write
unfolding typed_effects
typed_wants mail message turns.More is = absurd (cc)
typed_wants mail message turns.Write is = refl
typed_wants mail message turns.Dropped is = absurd (cc)

raw_wants : (mail : MailState) (key : ℕ) (writing : Option Message) → wants (raw_by mail key writing) ≡ true → key ≡ 26
raw_wants mail key None is = absurd (cc)
raw_wants mail key (Some message) is =
    writes_at message.typed key
    (typed_wants mail (record message { typed = bytes_after message.typed key }) (turn_of (echo_of message.typed key)) is)

-- a key is one of a line, or a raw one
of_line : (at : RunState MailState) (key : ℕ) (it : Mode) → is_line it ≡ true → keystroke_by mail_semantics at key it ≡ line_keystroke mail_semantics at key
of_line at key (mode.Line node prompt takes) line = refl
of_line at key mode.Raw line = absurd (cc)
of_line at key mode.Ended line = absurd (cc)

of_raw : (at : RunState MailState) (key : ℕ) (it : Mode) → is_line it ≡ false → keystroke_by mail_semantics at key it ≡ raw_keystroke mail_semantics at key
of_raw at key (mode.Line node prompt takes) other = absurd (cc)
of_raw at key mode.Raw other = refl
of_raw at key mode.Ended other = refl

module _ (at : RunState MailState) (key : ℕ) where
  turn_asks : (to : Turn) → turn_at mail_semantics at key ≡ to → is_line (mail_semantics.mode_of at.state) ≡ true
      → asks (turn_outcome mail_semantics at.state (session_at mail_semantics at key) (moment_of mail_semantics at) to).events ≡ true
      → TakesMemory at key
  unfolding turn_outcome
  turn_asks turn.Confirmed is line there =
      inr (record {
        line = line;
        confirmed = is;
        takes = sym (or_none (allocates (command_of_key at key)))
            ∙ sym (confirmed_asks at.state (session_at mail_semantics at key) (moment_of mail_semantics at)) ∙ there;
      })
  turn_asks (turn.Refused fault) is line there = absurd (cc)
  turn_asks turn.Abandoned is line there = absurd (cc)
  turn_asks turn.Edited is line there = absurd (cc)
  turn_asks turn.Failed is line there = absurd (cc)

  key_asks : asks (key_trace mail_semantics false at key) ≡ true → TakesMemory at key
  unfolding line_keystroke raw_keystroke
  key_asks there = by (is_line (mail_semantics.mode_of at.state)) refl where
    events : asks (keystroke mail_semantics at key).outcome.events ≡ true
    events = sym (asks_keystroke mail_semantics false at.state (keystroke mail_semantics at key)) ∙ there

    by : (line : Bool) → is_line (mail_semantics.mode_of at.state) ≡ line → TakesMemory at key
    by true is =
        turn_asks (turn_at mail_semantics at key) refl is
        (subst (λ (s : Keystroke MailState). asks s.outcome.events ≡ true) (of_line at key (mail_semantics.mode_of at.state) is) events)
    by false is =
        inl (
          is,
          raw_wants at.state key at.state.writing (sym (asks_effects (mail_semantics.raw_effects at.state key))
              ∙ subst (λ (s : Keystroke MailState). asks s.outcome.events ≡ true) (of_raw at key (mail_semantics.mode_of at.state) is) events),
        )

-- the last key at which memory was asked for
pub last_takes : (start : State) (moments keys : List ℕ) (done rest : List (Event MailState))
    → done ++ Memory ∷ rest ≡ mail_trace start moments keys → LastTakesMemory start moments (keys_of done)
last_takes start moments keys done rest same =
    let asked = asked_run mail_semantics false (mail_start start) moments keys done rest same in
    let at = met_by mail_semantics (starting mail_semantics (mail_start start) moments) (keys_of done) asked.last in
    record { last = asked.last; takes = key_asks at asked.last.key asked.there }
