-- What mail shows ends its line wherever a line begins.
use Rattle.std.proofs.Common.{◌≡◌, ◌≢◌, ℕ, Bool, true, false, cond, List, [], ◌∷◌, ◌++◌, map, nat_lt, Option, None, Some, Result, Ok, Err, inl, inr, refl}
use Rattle.cm_text.specs.ScreenBytes.{end_of_line, printing_byte}
use Rattle.cm_fields.specs.declared.code.Code.{Code}
use Rattle.cm_fields.specs.declared.code.Code.TheVariants.{MailFull, NoMessage}
use Rattle.cm_state.specs.Echo.{refusal}
use Rattle.cm_run.specs.declared.mode.Mode.TheVariants as mode
use Rattle.cm_run.specs.Keeping.{HasPrintedPrompt, IsLineKeeping, is_line}
use Rattle.cm_run.specs.Obey.{left_by, replies}
use Rattle.cm_run.specs.Shows.{EndsLine, IsEnded}
use Rattle.cm_run.proofs.Echoes.{prompts_printed}
use Rattle.cm_run.proofs.LineEnds.{ended_after, ended_then, ends_each, ends_effect, eol_ends}
use Rattle.ex_store.specs.Plan.{Planned}
use Rattle.ex_store.specs.State.{State}
use Rattle.ex_store.specs.declared.key.NamePair.{NamePair}
use Rattle.ex_store.specs.declared.row.Row.{Row}
use Rattle.ex_commands.specs.Act.{Act, plays_by, refuses}
use Rattle.ex_commands.specs.Replies.{day_of, held_text}
use Rattle.ex_commands.specs.Texts.{space}
use Rattle.ex_commands.specs.FileTyping.{bytes_after, echo_of, echo_text, turn_of}
use Rattle.ex_commands.specs.declared.data.DataTurn.{DataTurn}
use Rattle.ex_commands.specs.declared.data.DataTurn.TheVariants as turns
use Rattle.ex_commands.proofs.LineEnds.{Ended, Ends, held_ends, refusal_ends}
use Rattle.ex_commands.proofs.TypedEnds.{last_key_ends}
use Rattle.mm_mail.specs.Delivery.{number_for, sends, sends_as, sent_line, sent_to}
use Rattle.mm_mail.specs.Mailbox.{deleted, deleted_line, deletes, deletes_first, first_line, header_line, mailbox, messages_numbered, reads, reads_first}
use Rattle.mm_mail.specs.MailState.{MailState}
use Rattle.mm_mail.specs.Semantics.{act_of, echo_by, effect_of, mail_semantics, mode_by, mode_of, raw_by, sent, typed_effects}
use Rattle.mm_mail.specs.MessageName.{digits_of, four_digits}
use Rattle.mm_mail.specs.declared.command.Command.{Command}
use Rattle.mm_mail.specs.declared.command.Command.TheVariants as commands
use Rattle.mm_mail.specs.declared.message.Message.{Message}
use Rattle.mm_mail.specs.declared.message_name.TheConstants.{MOST_MESSAGES}

prompt_printed : (ended : Bool) (writing : Option Message) → HasPrintedPrompt (mode_by ended writing)
prompt_printed true writing = tt
prompt_printed false None = prompts_printed.0
prompt_printed false (Some message) = tt

-- as commands say it
as_ends : (bytes : List ℕ) → Ends bytes → EndsLine bytes
as_ends bytes (inl none) = inl none
as_ends bytes (inr ended) = inr (record { front = ended.front; ends = ended.ends })

as_ended : (bytes : List ℕ) → Ended bytes → IsEnded bytes
as_ended bytes ended = record { front = ended.front; ends = ended.ends }

refusal_ended : (code : Code) → EndsLine (refusal code)
refusal_ended code = inr (as_ended (refusal code) (refusal_ends code))

-- the replies of commands
header_ends : (row : Row) → EndsLine (header_line row)
unfolding header_line
header_ends row =
    inr (ended_after (space ++ digits_of row.key.name ++ space ++ day_of row.file.moment ++ space
    ++ map printing_byte (first_line row.file.bytes)) end_of_line eol_ends)

reads_end : (rows : List Row) (state : State) → EndsLine (reads_first rows state).reply
reads_end [] state = refusal_ended NoMessage
reads_end (row ∷ more) state = as_ends (held_text row) (held_ends row)

deletes_end : (number : ℕ) (rows : List Row) (state : State) → EndsLine (deletes_first number rows state).reply
unfolding deleted_line
deletes_end number [] state = refusal_ended NoMessage
deletes_end number (row ∷ more) state = inr (ended_after (deleted ++ four_digits number) end_of_line eol_ends)

act_ends : (command : Command) (state : State) → EndsLine (act_of command state).reply
unfolding act_of reads deletes
act_ends commands.Empty state = inl refl
act_ends (commands.Delete number) state =
    deletes_end number (messages_numbered state.connected number state) state
act_ends commands.Headers state = ends_each header_line header_ends (mailbox state.connected state)
act_ends commands.Quit state = inl refl
act_ends (commands.Read number) state = reads_end (messages_numbered state.connected number state) state
act_ends (commands.Send receiver subject) state = inl refl

-- and of a message that is sent
sent_ends : (receiver : List ℕ) (number : ℕ) → EndsLine (sent_line receiver number)
unfolding sent_line
sent_ends receiver number =
    inr (ended_after (sent_to ++ receiver ++ space ++ four_digits number) end_of_line eol_ends)

plays_end : (receiver : List ℕ) (number : ℕ) (made : Result Planned Code) (state : State)
    → EndsLine (plays_by (λ (pairs : List NamePair). sent_line receiver number) made state).reply
plays_end receiver number (Ok made) state = sent_ends receiver number
plays_end receiver number (Err code) state = refusal_ended code

choice_ends : (test : Bool) (one other : Act) → EndsLine one.reply → EndsLine other.reply
    → EndsLine (cond test one other).reply
choice_ends true one other here there = here
choice_ends false one other here there = there

sends_end : (message : Message) (state : State) → EndsLine (sends message state).reply
unfolding sends
sends_end message state =
    choice_ends (nat_lt MOST_MESSAGES (number_for message state)) (refuses MailFull state)
    (sends_as (number_for message state) message state) (refusal_ended MailFull)
    (plays_end message.receiver (number_for message state) _ state)

-- while a message is typed in no line begins
no_line : (ended : Bool) (message : Message) → is_line (mode_by ended (Some message)) ≡ true → ⊥
no_line true message is = cc
no_line false message is = cc

-- a key with which the typing ends shows the end of a line, and the reply of the message ends its own
by_turn : (mail : MailState) (message : Message) (shown : List ℕ) (turn : DataTurn)
    → (turn ≢ turns.More → IsEnded shown)
    → is_line (mode_of (left_by mail (typed_effects mail message turn))) ≡ true
    → IsEnded (shown ++ replies (typed_effects mail message turn))
unfolding typed_effects
by_turn mail message shown turns.More ends line = absurd (no_line mail.ended message line)
by_turn mail message shown turns.Write ends line =
    let at = record mail { writing = None } in
    ended_then shown (replies (sent at message ∷ [])) (ends (λ is. cc))
    (ends_effect (sent at message) (sends_end message at.state))
by_turn mail message shown turns.Dropped ends line = ended_then shown [] (ends (λ is. cc)) (inl refl)

raw_ends : (mail : MailState) (key : ℕ) (ended : Bool) (writing : Option Message) → mode_by ended writing ≡ mode.Raw
    → is_line (mode_of (left_by mail (raw_by mail key writing))) ≡ true
    → IsEnded (echo_by key writing ++ replies (raw_by mail key writing))
raw_ends mail key true writing is line = absurd (cc)
raw_ends mail key false None is line = absurd (cc)
raw_ends mail key false (Some message) is line =
    by_turn mail (record message { typed = bytes_after message.typed key }) (echo_text (echo_of message.typed key))
    (turn_of (echo_of message.typed key)) (λ ends. as_ended _ (last_key_ends message.typed key ends)) line

pub mail_keeps_lines : IsLineKeeping mail_semantics
mail_keeps_lines = record {
  kept = λ at key going kept. tt;
  prompts = λ mail kept. prompt_printed mail.ended mail.writing;
  lines = λ mail session moment.
      ends_effect (effect_of mail moment _) (act_ends _ mail.state);
  file_lines = λ mail session moment. inl refl;
  raw_keys = λ mail key is line. raw_ends mail key mail.ended mail.writing is line;
}
