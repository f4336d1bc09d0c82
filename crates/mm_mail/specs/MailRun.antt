-- The run of mail over keys.
use Rattle.std.specs.Prelude.{◌≡◌, ◌++◌, ℕ, false, List, Option, None, Some}
use Rattle.cm_io.specs.declared.status.Status.{Status}
use Rattle.cm_io.specs.declared.status.Status.TheVariants as status
use Rattle.cm_text.specs.ScreenBytes.{end_of_line}
use Rattle.cm_run.specs.Event.{Event, screen_bytes, state_after}
use Rattle.cm_run.specs.Trace.{run_trace}
use Rattle.ex_store.specs.State.{State}
use Rattle.ex_system.specs.Disk.{Disk}
use Rattle.ex_system.specs.Form.{Form}
use Rattle.ex_run.specs.Course.{Shown, StandsBy}
use Rattle.ex_run.specs.Over.{closing}
use Rattle.ex_run.specs.Scene.{Scene, Telling}
use Rattle.mm_mail.specs.Form.{usage}
use Rattle.mm_mail.specs.MailState.{MailState, mail_start}
use Rattle.mm_mail.specs.Semantics.{mail_over, mail_semantics}

-- what happens in the run that begins in this state, at these moments and keys; there is no log
abbrev pub mail_trace : State → List ℕ → List ℕ → List (Event MailState)
mail_trace start moments keys = run_trace mail_semantics false (mail_start start) moments keys

-- where it leads
abbrev pub mail_left : State → List ℕ → List ℕ → MailState
mail_left start moments keys = state_after (mail_start start) (mail_trace start moments keys)

-- all that a whole run shows: the line that is open is ended where QUIT has not ended the run
abbrev pub run_shown : State → List ℕ → List ℕ → List ℕ
run_shown start moments keys =
    screen_bytes (mail_trace start moments keys) ++ closing (mail_left start moments keys).ended

-- what is at the end, by whether keys and clock tell
abbrev pub Stands : Telling → Option Form → Scene → Scene → Disk → Disk → Status → Type 0
Stands known None a b before now result =
    (result ≡ status.Usage) × Shown a b (usage ++ end_of_line) × (now ≡ before)
Stands known (Some form) a b before now result = StandsBy known mail_over form a b before now result
