-- What keys and refused commands change of mail.
use Rattle.std.proofs.Common.{◌≡◌, ◌≢◌, ℕ, Bool, true, false, cond, nat_lt, List, [], ◌∷◌, Option, None, Some, Result, Ok, Err, refl, sym, ap, ◌∙◌}
use Rattle.cm_fields.specs.declared.code.Code.{Code}
use Rattle.cm_fields.specs.declared.code.Code.TheVariants.{MailFull}
use Rattle.cm_state.specs.Edit.{edited}
use Rattle.cm_state.specs.declared.turn.Turn.{Turn}
use Rattle.cm_state.specs.declared.turn.Turn.TheVariants as turn
use Rattle.cm_run.specs.declared.engine.TheConstants.{FILE_LINES}
use Rattle.cm_run.specs.Event.{Event, state_after}
use Rattle.cm_run.specs.Idle.{IsIdle, turn_at}
use Rattle.cm_run.specs.Keeping.{is_line}
use Rattle.cm_run.specs.Semantics.{setting_of}
use Rattle.cm_run.specs.Obey.{left_by}
use Rattle.cm_run.specs.Trace.{RunState, step}
use Rattle.cm_run.proofs.Fileless.{no_files}
use Rattle.cm_run.proofs.LineTurns.{confirmed_leads, idle_stays, moment_of, raw_leads, session_at}
use Rattle.ex_store.specs.Plan.{Planned}
use Rattle.ex_store.specs.State.{State, catalogue_of}
use Rattle.ex_store.specs.declared.key.NamePair.{NamePair}
use Rattle.ex_store.specs.declared.row.Row.{Row}
use Rattle.ex_commands.specs.Act.{Act, plays_by, refuses}
use Rattle.ex_commands.specs.FileTyping.{bytes_after, echo_of}
use Rattle.ex_commands.specs.FileTyping as typed
use Rattle.ex_commands.specs.declared.acted.Acted.TheVariants as answers
use Rattle.ex_commands.specs.declared.data.DataTurn.{DataTurn}
use Rattle.ex_commands.specs.declared.data.DataTurn.TheVariants as turns
use Rattle.ex_commands.proofs.TypedEnds.{others_keep}
use Rattle.mm_mail.specs.Command.{command_of}
use Rattle.mm_mail.specs.Delivery.{number_for, sends, sends_as, sent_line}
use Rattle.mm_mail.specs.Mailbox.{deletes, deletes_first, messages_numbered, reads, reads_first}
use Rattle.mm_mail.specs.MailState.{MailState}
use Rattle.mm_mail.specs.Semantics.{act_of, becomes, mail_semantics, raw_by, typed_effects}
use Rattle.mm_mail.specs.declared.command.Command.{Command}
use Rattle.mm_mail.specs.declared.command.Command.TheVariants as commands
use Rattle.mm_mail.specs.declared.message.Message.{Message}
use Rattle.mm_mail.specs.declared.message_name.TheConstants.{MOST_MESSAGES}

-- a line that is not confirmed
idle : IsIdle mail_semantics (λ (mail : MailState). mail)
idle = record { refusal = λ mail. refl; abandonment = λ mail. refl }

pub unconfirmed_stays : (at : RunState MailState) (key : ℕ) → is_line (mail_semantics.mode_of at.state) ≡ true
    → (turn_at mail_semantics at key ≡ turn.Confirmed → ⊥) → (step mail_semantics at key).state ≡ at.state
unconfirmed_stays at key line other = idle_stays mail_semantics (λ (it : MailState). it) idle at key line other

-- a key of a message that is typed in
kept_by : (mail : MailState) (message : Message) (turn : DataTurn) → turn ≢ turns.Write
    → (left_by mail (typed_effects mail message turn)).state ≡ mail.state
unfolding typed_effects
kept_by mail message turns.More other = refl
kept_by mail message turns.Write other = absurd (other refl)
kept_by mail message turns.Dropped other = refl

raw_keeps : (mail : MailState) (key : ℕ) (writing : Option Message) → key ≢ 26 → (left_by mail (raw_by mail key writing)).state ≡ mail.state
raw_keeps mail key None other = refl
raw_keeps mail key (Some message) other =
    kept_by mail (record message { typed = bytes_after message.typed key }) (typed.turn_of (echo_of message.typed key))
    (others_keep message.typed key other)

pub raw_key_keeps : (at : RunState MailState) (key : ℕ) → is_line (mail_semantics.mode_of at.state) ≡ false → key ≢ 26
    → (step mail_semantics at key).state.state ≡ at.state.state
raw_key_keeps at key other no_send =
    ap (λ (it : MailState). it.state) (raw_leads mail_semantics at key other) ∙ raw_keeps at.state key at.state.writing no_send

going_by : (mail : MailState) (message : Message) (turn : DataTurn) → (left_by mail (typed_effects mail message turn)).ended ≡ mail.ended
unfolding typed_effects
going_by mail message turns.More = refl
going_by mail message turns.Write = refl
going_by mail message turns.Dropped = refl

raw_goes_on : (mail : MailState) (key : ℕ) (writing : Option Message) → (left_by mail (raw_by mail key writing)).ended ≡ mail.ended
raw_goes_on mail key None = refl
raw_goes_on mail key (Some message) =
    going_by mail (record message { typed = bytes_after message.typed key }) (typed.turn_of (echo_of message.typed key))

-- only QUIT ends the run
ended_by : (mail : MailState) (moment : ℕ) (command : Command) → mail.ended ≡ false → (becomes mail moment command).ended ≡ true
    → command ≡ commands.Quit
ended_by mail moment commands.Quit on over = refl
ended_by mail moment commands.Empty on over = let wrong : true ≡ false = sym over ∙ on in absurd (cc)
ended_by mail moment (commands.Delete number) on over = let wrong : true ≡ false = sym over ∙ on in absurd (cc)
ended_by mail moment commands.Headers on over = let wrong : true ≡ false = sym over ∙ on in absurd (cc)
ended_by mail moment (commands.Read number) on over = let wrong : true ≡ false = sym over ∙ on in absurd (cc)
ended_by mail moment (commands.Send receiver subject) on over = let wrong : true ≡ false = sym over ∙ on in absurd (cc)

module _ (at : RunState MailState) (key : ℕ) (on : at.state.ended ≡ false) (over : (step mail_semantics at key).state.ended ≡ true) where
  line_ends : is_line (mail_semantics.mode_of at.state) ≡ true
  line_ends = by (is_line (mail_semantics.mode_of at.state)) refl where
    by : (line : Bool) → is_line (mail_semantics.mode_of at.state) ≡ line → is_line (mail_semantics.mode_of at.state) ≡ true
    by true is = is
    by false is =
        let wrong : true ≡ false = sym over ∙ ap (λ (it : MailState). it.ended) (raw_leads mail_semantics at key is)
        ∙ raw_goes_on at.state key at.state.writing ∙ on in absurd (cc)

  abbrev command : Command
  command = command_of (catalogue_of at.state.state) (edited (setting_of mail_semantics at.state) at.session key)

  abbrev left : MailState
  left = left_by at.state (mail_semantics.line_effects at.state (session_at mail_semantics at key) (moment_of mail_semantics at))

  stays : (turn_at mail_semantics at key ≡ turn.Confirmed → ⊥) → ⊥
  stays other =
      let wrong : true ≡ false = sym over ∙ ap (λ (it : MailState). it.ended) (unconfirmed_stays at key line_ends other) ∙ on in absurd (cc)

  ended : turn_at mail_semantics at key ≡ turn.Confirmed → (becomes at.state (moment_of mail_semantics at) command).ended ≡ true
  ended is =
      sym (ap (λ (it : MailState). it.ended) (confirmed_leads mail_semantics at key line_ends is
      ∙ ap (λ (events : List (Event MailState)). state_after left events) (no_files mail_semantics (λ state. refl) FILE_LINES (moment_of mail_semantics at) left))) ∙ over

  pub quit_ends : (turn_at mail_semantics at key ≡ turn.Confirmed) × (command ≡ commands.Quit)
  quit_ends = by (turn_at mail_semantics at key) refl where
    by : (to : Turn) → turn_at mail_semantics at key ≡ to → (turn_at mail_semantics at key ≡ turn.Confirmed) × (command ≡ commands.Quit)
    by turn.Confirmed is = (is, ended_by at.state (moment_of mail_semantics at) command on (ended is))
    by (turn.Refused fault) is = absurd (stays (λ done. let wrong : turn.Refused fault ≡ turn.Confirmed = sym is ∙ done in absurd (cc)))
    by turn.Abandoned is = absurd (stays (λ done. let wrong : turn.Abandoned ≡ turn.Confirmed = sym is ∙ done in absurd (cc)))
    by turn.Edited is = absurd (stays (λ done. let wrong : turn.Edited ≡ turn.Confirmed = sym is ∙ done in absurd (cc)))
    by turn.Failed is = absurd (stays (λ done. let wrong : turn.Failed ≡ turn.Confirmed = sym is ∙ done in absurd (cc)))

-- what is refused changes nothing
reads_stay : (rows : List Row) (state : State) → (reads_first rows state).state ≡ state
reads_stay [] state = refl
reads_stay (row ∷ more) state = refl

deletes_stay : (number : ℕ) (rows : List Row) (state : State) (code : Code) → (deletes_first number rows state).answer ≡ answers.Refused code
    → (deletes_first number rows state).state ≡ state
deletes_stay number [] state code is = refl
deletes_stay number (row ∷ more) state code is = absurd (cc)

pub refused_stays : (command : Command) (state : State) (code : Code) → (act_of command state).answer ≡ answers.Refused code
    → (act_of command state).state ≡ state
unfolding act_of reads deletes
refused_stays commands.Empty state code is = refl
refused_stays (commands.Delete number) state code is = deletes_stay number (messages_numbered state.connected number state) state code is
refused_stays commands.Headers state code is = refl
refused_stays commands.Quit state code is = refl
refused_stays (commands.Read number) state code is = reads_stay (messages_numbered state.connected number state) state
refused_stays (commands.Send receiver subject) state code is = refl

plays_stay : (reply : List NamePair → List ℕ) (made : Result Planned Code) (state : State) (code : Code)
    → (plays_by reply made state).answer ≡ answers.Refused code → (plays_by reply made state).state ≡ state
plays_stay reply (Ok made) state code is = absurd (cc)
plays_stay reply (Err why) state code is = refl

choice_stays : (test : Bool) (one other : Act) (state : State) (code : Code) → (one.answer ≡ answers.Refused code → one.state ≡ state)
    → (other.answer ≡ answers.Refused code → other.state ≡ state) → (cond test one other).answer ≡ answers.Refused code
    → (cond test one other).state ≡ state
choice_stays true one other state code here there is = here is
choice_stays false one other state code here there is = there is

pub unsent_stays : (message : Message) (state : State) (code : Code) → (sends message state).answer ≡ answers.Refused code
    → (sends message state).state ≡ state
unfolding sends
unsent_stays message state code =
    choice_stays (nat_lt MOST_MESSAGES (number_for message state)) (refuses MailFull state) (sends_as (number_for message state) message state)
    state code (λ is. refl)
    (plays_stay (λ (pairs : List NamePair). sent_line message.receiver (number_for message state)) _ state code)

pub send_waits : (receiver subject : List ℕ) (state : State) → (act_of (commands.Send receiver subject) state).state ≡ state
unfolding act_of
send_waits receiver subject state = refl

pub quit_stays : (state : State) → (act_of commands.Quit state).state ≡ state
unfolding act_of
quit_stays state = refl

-- no command changes the directories
deletes_keep : (number : ℕ) (rows : List Row) (state : State) → (deletes_first number rows state).state.directories ≡ state.directories
deletes_keep number [] state = refl
deletes_keep number (row ∷ more) state = refl

pub directories_stay : (command : Command) (state : State) → (act_of command state).state.directories ≡ state.directories
unfolding act_of reads deletes
directories_stay commands.Empty state = refl
directories_stay (commands.Delete number) state = deletes_keep number (messages_numbered state.connected number state) state
directories_stay commands.Headers state = refl
directories_stay commands.Quit state = refl
directories_stay (commands.Read number) state =
    ap (λ (it : State). it.directories) (reads_stay (messages_numbered state.connected number state) state)
directories_stay (commands.Send receiver subject) state = refl
