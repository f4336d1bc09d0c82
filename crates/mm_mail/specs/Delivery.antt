-- A message is sent.
use Rattle.std.specs.Prelude.{ℕ, ◌≡◌, ◌+◌, nat_lt, if◌then◌else◌, List, [], ◌∷◌, ◌++◌, codes}
use Rattle.cm_text.specs.ScreenBytes.{end_of_line}
use Rattle.cm_fields.specs.declared.code.Code.TheVariants.{MailFull}
use Rattle.cm_fields.specs.declared.value.Gen.TheVariants.{Next}
use Rattle.ex_store.specs.declared.key.NamePair.{NamePair}
use Rattle.ex_store.specs.declared.plan.Plan.TheVariants as plans
use Rattle.ex_store.specs.declared.row.Row.{Row}
use Rattle.ex_store.specs.Plan.{planned}
use Rattle.ex_store.specs.State.{State}
use Rattle.ex_commands.specs.Act.{Act, does, plays_by, refuses}
use Rattle.ex_commands.specs.Replies.{held_text}
use Rattle.ex_commands.specs.Texts.{space}
use Rattle.mm_mail.specs.Mailbox.{greatest, message_place, messages_numbered, reads}
use Rattle.mm_mail.specs.MessageName.{four_digits}
use Rattle.mm_mail.specs.declared.message.Message.{Message}
use Rattle.mm_mail.specs.declared.message_name.TheConstants.{MOST_MESSAGES}

-- what its file holds: `FROM: SUBJECT`, and what was typed in
unfoldable pub sender_end : List ℕ
sender_end = codes ": "

unfoldable pub message_bytes : List ℕ → List ℕ → List ℕ → List ℕ
message_bytes sender subject typed = sender ++ sender_end ++ subject ++ end_of_line ++ typed

-- ` Sent to USER NNNN`
unfoldable pub sent_to : List ℕ
sent_to = codes " Sent to "

unfoldable pub sent_line : List ℕ → ℕ → List ℕ
sent_line receiver number = sent_to ++ receiver ++ space ++ four_digits number ++ end_of_line

-- it has the number after the greatest, and is a new file of its receiver's; past the last number it is refused
abbrev pub number_for : Message → State → ℕ
number_for message state = greatest message.receiver state + 1

abbrev pub sends_as : ℕ → Message → State → Act
sends_as number message state =
    plays_by (λ (pairs : List NamePair). sent_line message.receiver number)
    (planned (plans.Write (message_place message.receiver number Next)
    (message_bytes state.connected message.subject message.typed)) message.moment state) state

-- [message]
unfoldable pub sends : Message → State → Act
sends message state =
    let number = number_for message state in
    if nat_lt MOST_MESSAGES number then refuses MailFull state else sends_as number message state

-- a state, where the receiver of the message is the one who is connected
abbrev pub at_receiver : Message → State → State
at_receiver message left = record left { connected = message.receiver }

-- a message that was sent is read in the state that is left: its number names one file of its receiver's, which holds
-- it, and READ of that number by its receiver shows the text of that file and changes nothing
pub record IsRead (message : Message) (state left : State) : Type 0 where
  pub row : Row
  pub alone : messages_numbered message.receiver (number_for message state) left ≡ row ∷ []
  pub bytes : row.file.bytes ≡ message_bytes state.connected message.subject message.typed
  pub shown : reads (number_for message state) (at_receiver message left)
      ≡ does (held_text row) (at_receiver message left)
