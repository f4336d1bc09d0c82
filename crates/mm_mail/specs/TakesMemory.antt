-- The keys at which mail may want memory.
use Rattle.std.specs.Prelude.{◌≡◌, ◌⊎◌, ℕ, true, false, List}
use Rattle.cm_state.specs.Edit.{edited}
use Rattle.cm_state.specs.declared.turn.Turn.TheVariants as turn
use Rattle.cm_run.specs.Idle.{turn_at}
use Rattle.cm_run.specs.Keeping.{is_line}
use Rattle.cm_run.specs.LastKey.{LastKey, met_by}
use Rattle.cm_run.specs.Semantics.{setting_of}
use Rattle.cm_run.specs.Trace.{RunState, starting}
use Rattle.ex_store.specs.State.{State, catalogue_of}
use Rattle.mm_mail.specs.Command.{command_of}
use Rattle.mm_mail.specs.MailState.{MailState, mail_start}
use Rattle.mm_mail.specs.Semantics.{allocates, mail_semantics}
use Rattle.mm_mail.specs.declared.command.Command.{Command}

-- what the line commands that a key finishes
abbrev pub command_of_key : RunState MailState → ℕ → Command
command_of_key at key =
    command_of (catalogue_of at.state.state) (edited (setting_of mail_semantics at.state) at.session key)

-- the key sends a message that is typed in
abbrev pub SendsMessage : RunState MailState → ℕ → Type 0
SendsMessage at key = (is_line (mail_semantics.mode_of at.state) ≡ false) × (key ≡ 26)

-- or it finishes a line of SEND
pub record FinishesSend (at : RunState MailState) (key : ℕ) : Type 0 where
  pub line : is_line (mail_semantics.mode_of at.state) ≡ true
  pub confirmed : turn_at mail_semantics at key ≡ turn.Confirmed
  pub takes : allocates (command_of_key at key) ≡ true

abbrev pub TakesMemory : RunState MailState → ℕ → Type 0
TakesMemory at key = SendsMessage at key ⊎ FinishesSend at key

-- of a run from this state, at these moments, the last of the keys that were taken is such a one
pub record LastTakesMemory (start : State) (moments taken : List ℕ) : Type 0 where
  pub last : LastKey mail_semantics (starting mail_semantics (mail_start start) moments) taken
  pub takes : TakesMemory
      (met_by mail_semantics (starting mail_semantics (mail_start start) moments) taken last) last.key
