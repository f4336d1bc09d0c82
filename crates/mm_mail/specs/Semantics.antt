-- What mail means: what its lines do, and the keys of a message that is typed in.
use Rattle.std.specs.Prelude.{ℕ, Bool, true, false, List, [], ◌∷◌, Option, None, Some}
use Rattle.cm_state.specs.declared.prompt.Prompt.TheVariants.{Main}
use Rattle.cm_run.specs.Semantics.{Effect, Semantics}
use Rattle.cm_run.specs.declared.mode.Mode.{Mode}
use Rattle.cm_run.specs.declared.mode.Mode.TheVariants as mode
use Rattle.ex_store.specs.State.{State, catalogue_of}
use Rattle.ex_commands.specs.Act.{Act, does}
use Rattle.ex_commands.specs.FileTyping.{bytes_after, echo_of, echo_text, turn_of}
use Rattle.ex_commands.specs.declared.data.DataTurn.{DataTurn}
use Rattle.ex_commands.specs.declared.data.DataTurn.TheVariants as turns
use Rattle.ex_run.specs.Over.{Over, over}
use Rattle.mm_mail.specs.Command.{command_of}
use Rattle.mm_mail.specs.Delivery.{sends}
use Rattle.mm_mail.specs.Graph.{mail_graph}
use Rattle.mm_mail.specs.Mailbox.{deletes, headers, reads}
use Rattle.mm_mail.specs.MailRules.{mail_meanings}
use Rattle.mm_mail.specs.MailState.{MailState, mail_start}
use Rattle.mm_mail.specs.declared.command.Command.{Command}
use Rattle.mm_mail.specs.declared.command.Command.TheVariants as commands
use Rattle.mm_mail.specs.declared.grammar.TheConstants.{COMMANDS}
use Rattle.mm_mail.specs.declared.message.Message.{Message}

-- after QUIT there are no more keys; those of a message that is typed in are raw; each other is for a line
abbrev pub mode_by : Bool → Option Message → Mode
mode_by true writing = mode.Ended
mode_by false (Some message) = mode.Raw
mode_by false None = mode.Line COMMANDS Main true

abbrev pub mode_of : MailState → Mode
mode_of mail = mode_by mail.ended mail.writing

-- what a command makes of the store, and shows; SEND does neither before its message is typed in
unfoldable pub act_of : Command → State → Act
act_of commands.Empty state = does [] state
act_of (commands.Delete number) state = deletes number state
act_of commands.Headers state = headers state
act_of commands.Quit state = does [] state
act_of (commands.Read number) state = reads number state
act_of (commands.Send receiver subject) state = does [] state

-- nothing of the message is typed yet
abbrev pub message_to : List ℕ → List ℕ → ℕ → Message
message_to receiver subject moment =
    record { receiver = receiver; subject = subject; moment = moment; typed = [] }

-- after SEND a message is typed in, and QUIT ends the run
abbrev pub becomes : MailState → ℕ → Command → MailState
becomes mail moment (commands.Send receiver subject) =
    record mail { writing = Some (message_to receiver subject moment) }
becomes mail moment commands.Quit = record mail { ended = true }
becomes mail moment command = mail

-- memory may run out for SEND, for what is typed
abbrev pub allocates : Command → Bool
allocates (commands.Send receiver subject) = true
allocates command = false

-- what a command does at a moment
abbrev pub effect_by : MailState → ℕ → Command → Act → Effect MailState
effect_by mail moment command act = record {
  may_allocate = allocates command;
  state = record (becomes mail moment command) { state = act.state };
  reply = act.reply;
}

abbrev pub effect_of : MailState → ℕ → Command → Effect MailState
effect_of mail moment command = effect_by mail moment command (act_of command mail.state)

-- an act that shows nothing and takes no memory
abbrev pub silent : MailState → Effect MailState
silent mail = record { may_allocate = false; state = mail; reply = [] }

-- what was typed in is sent, at the moment of its line
abbrev pub sent_by : MailState → Act → Effect MailState
sent_by mail act = record { may_allocate = true; state = record mail { state = act.state }; reply = act.reply }

abbrev pub sent : MailState → Message → Effect MailState
sent mail message = sent_by mail (sends message mail.state)

-- what a key of a message does, by its outcome: the typing goes on, or it ends, and with control-Z the message is
-- sent
unfoldable pub typed_effects : MailState → Message → DataTurn → List (Effect MailState)
typed_effects mail message turns.More = silent (record mail { writing = Some message }) ∷ []
typed_effects mail message turns.Write =
    silent (record mail { writing = None }) ∷ sent (record mail { writing = None }) message ∷ []
typed_effects mail message turns.Dropped = silent (record mail { writing = None }) ∷ []

abbrev pub raw_by : MailState → ℕ → Option Message → List (Effect MailState)
raw_by mail key None = []
raw_by mail key (Some message) =
    typed_effects mail (record message { typed = bytes_after message.typed key }) (turn_of (echo_of message.typed key))

-- what it shows first
abbrev pub echo_by : ℕ → Option Message → List ℕ
echo_by key None = []
echo_by key (Some message) = echo_text (echo_of message.typed key)

-- a line that is refused or given up changes nothing, and there are no command files
abbrev pub mail_semantics : Semantics MailState
mail_semantics = record {
  graph_of = λ mail. mail_graph;
  rules_of = λ state. mail_meanings;
  catalogue_of = λ mail. catalogue_of mail.state;
  mode_of = mode_of;
  line_effects = λ mail session moment. effect_of mail moment (command_of (catalogue_of mail.state) session) ∷ [];
  refusal = λ mail. mail;
  abandonment = λ mail. mail;
  raw_echo = λ mail key. echo_by key mail.writing;
  raw_effects = λ mail key. raw_by mail key mail.writing;
  file_line = λ mail. None;
  file_line_effects = λ mail session moment. [];
}

-- mail over a store
abbrev pub mail_over : Over MailState
mail_over = over mail_semantics mail_start (λ mail. mail.state)
