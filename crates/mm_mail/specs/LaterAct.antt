-- What mail does after a message is sent, and what of that leaves the message to be read.
use Rattle.std.specs.Prelude.{ℕ, ◌≢◌, ◌⊎◌, List, [], ◌∷◌}
use Rattle.ex_store.specs.State.{State}
use Rattle.mm_mail.specs.Delivery.{sends}
use Rattle.mm_mail.specs.Semantics.{act_of}
use Rattle.mm_mail.specs.declared.command.Command.{Command}
use Rattle.mm_mail.specs.declared.command.Command.TheVariants as commands
use Rattle.mm_mail.specs.declared.message.Message.{Message}

-- a line does what it commands, or a message that was typed in is sent
pub data MailAct : Type 0 where
  OfLine : Command → MailAct
  OfMessage : Message → MailAct

-- the state that it leaves
abbrev pub state_left : State → MailAct → State
state_left state (OfLine command) = (act_of command state).state
state_left state (OfMessage message) = (sends message state).state

abbrev pub state_after : State → List MailAct → State
state_after state [] = state
state_after state (act ∷ acts) = state_after (state_left state act) acts

-- it does not delete the message of this receiver with this number: it is no DELETE, one of another number, or that of
-- another reader
abbrev pub Spares : List ℕ → ℕ → State → MailAct → Type 0
Spares receiver number state (OfLine (commands.Delete other)) = (other ≢ number) ⊎ (state.connected ≢ receiver)
Spares receiver number state act = Unit {0}

abbrev pub AllSpare : List ℕ → ℕ → State → List MailAct → Type 0
AllSpare receiver number state [] = Unit {0}
AllSpare receiver number state (act ∷ acts) =
    Spares receiver number state act × AllSpare receiver number (state_left state act) acts
