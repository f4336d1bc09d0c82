-- What mail goes on from.
use Rattle.std.specs.Prelude.{Bool, false, Option, None}
use Rattle.ex_store.specs.State.{State}
use Rattle.mm_mail.specs.declared.message.Message.{Message}

-- directories and files, the message that is being typed in, and whether QUIT has acted
pub record MailState : Type 0 where
  pub state : State
  pub writing : Option Message
  pub ended : Bool

-- a run begins at a line, in this state
abbrev pub mail_start : State → MailState
mail_start state = record { state = state; writing = None; ended = false }
