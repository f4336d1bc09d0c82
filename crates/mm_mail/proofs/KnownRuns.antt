-- What is known of a run of mail, by the words alone.
use Rattle.std.proofs.Common.{◌≡◌, ◌↔◌, ℕ, ◌++◌, ◌&&◌, not, Bool, true, false, cond, List, Option, None, Some, refl, sym, ap, ◌∙◌, subst}
use Rattle.std.specs.Str.{bytes_eq}
use Rattle.cm_io.specs.Words.{Given}
use Rattle.cm_io.specs.declared.status.Status.{Status}
use Rattle.cm_io.specs.declared.status.Status.TheVariants as status
use Rattle.cm_run.specs.Event.{screen_bytes}
use Rattle.cm_run.specs.Trace.{is_ended}
use Rattle.ex_store.specs.State.{State}
use Rattle.ex_system.specs.Disk.{Disk}
use Rattle.ex_system.specs.Form.{Form, Two, is_name, pair_of}
use Rattle.ex_run.specs.Course.{StandsBy}
use Rattle.ex_run.specs.Over.{closing, has_ended, shown_of}
use Rattle.ex_run.specs.Scene.{Scene, Telling}
use Rattle.ex_run.proofs.Words.{heads}
use Rattle.mm_mail.specs.Form.{form_by, form_of}
use Rattle.mm_mail.specs.MailRun.{Stands, mail_left, mail_trace, run_shown}
use Rattle.mm_mail.specs.MailState.{MailState}
use Rattle.mm_mail.specs.Semantics.{mail_over, mode_by}
use Rattle.mm_mail.specs.declared.message.Message.{Message}

-- mail has ended the run where QUIT has acted
ended_by : (ended : Bool) (writing : Option Message) → is_ended (mode_by ended writing) ≡ ended
ended_by true writing = refl
ended_by false None = refl
ended_by false (Some message) = refl

pub ended_where : (mail : MailState) → has_ended mail_over mail ≡ mail.ended
ended_where mail = ended_by mail.ended mail.writing

pub shown_where : (start : State) (moments keys : List ℕ) → shown_of mail_over false start moments keys ≡ run_shown start moments keys
shown_where start moments keys =
    ap (λ (ended : Bool). screen_bytes (mail_trace start moments keys) ++ closing ended) (ended_where (mail_left start moments keys))

-- its words ask for no log
no_log : (two : Option Two) (form : Form) → form_by two ≡ Some form → form.logs ≡ false
no_log None form is = absurd (cc)
no_log (Some two) form is = by (is_name two.first && is_name two.second && not (bytes_eq two.first two.second)) is
  where
    own : Form
    own = record { logs = false; input = Some two.first; out = two.second }

    by : (test : Bool) → cond test (Some own) None ≡ Some form → form.logs ≡ false
    by true is = let same : own ≡ form = cc in sym (ap (λ (it : Form). it.logs) same)
    by false is = absurd (cc)

pub unlogged : (words : Given) (form : Form) → form_of words ≡ Some form → form.logs ≡ false
unfolding form_of
unlogged words form is = no_log (pair_of words) form is

-- a status that is not Usage, where the words have a form
pub no_usage : (asked : Option Form) (form : Form) (result : Status) → Some form ≡ asked → (result ≡ status.Usage → ⊥)
    → (result ≡ status.Usage) ↔ (asked ≡ None)
no_usage asked form result is other = (λ same. absurd (other same), λ none. let wrong : Some form ≡ None = is ∙ none in absurd (cc))

-- what stands, by what the words ask for
pub stands_asked : (known : Telling) (asked : Option Form) (form : Form) (a b : Scene) (before now : Disk) (result : Status)
    → Some form ≡ asked → StandsBy known mail_over form a b before now result → Stands known asked a b before now result
stands_asked known asked form a b before now result is stands =
    subst (λ (it : Option Form). Stands known it a b before now result) is stands

-- what `mm20` says of a run, clause by clause
pub ruleset known_run = (heads, ended_where, no_usage, shown_where, stands_asked, unlogged)
