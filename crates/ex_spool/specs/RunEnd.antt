-- What is at the end of a run of the spooler.
use Rattle.std.specs.Prelude.{◌≡◌, ◌⊎◌, ℕ, false, List, [], ◌++◌, codes, Option, Some, None, IsTrue}
use Rattle.cm_text.specs.ScreenBytes.{end_of_line}
use Rattle.cm_io.specs.Clock.{later_moments, next_moment}
use Rattle.cm_io.specs.Fault.{Rose}
use Rattle.cm_io.specs.Contents.{AddsPart, Contents, add}
use Rattle.cm_io.specs.Words.{Given}
use Rattle.cm_io.specs.declared.clock.Clock.{Ghosts as Clocks}
use Rattle.cm_io.specs.declared.host.Host.{Ghosts as Hosts}
use Rattle.cm_io.specs.declared.sink.Sink.{Ghosts as Sinks}
use Rattle.cm_io.specs.declared.status.Status.{Status}
use Rattle.cm_io.specs.declared.status.Status.TheVariants as status
use Rattle.ex_image.specs.Image.{image_text}
use Rattle.ex_store.specs.State.{State}
use Rattle.ex_system.specs.Disk.{Disk, disk_of}
use Rattle.ex_system.specs.Form.{Form, Two, in_out, pair_of}
use Rattle.ex_system.specs.Messages.{message}
use Rattle.ex_system.specs.Quiet.{IsQuiet}
use Rattle.ex_system.specs.Saving.{HostCause, IsOr, Saves}
use Rattle.ex_system.specs.Start.{Began, InputCause, IsEarly, IsLoaded, Starts}
use Rattle.ex_system.specs.Trying.{Tried}
use Rattle.ex_spool.specs.Spool.{pages, without_due}

-- the words are IN OUT, two files
abbrev pub form_by : Option Two → Option Form
form_by None = None
form_by (Some two) = in_out false two.first two.second

unfoldable pub form_of : Given → Option Form
form_of words = form_by (pair_of words)

-- what is shown where they are others
unfoldable pub usage : List ℕ
usage = codes "Usage: spool20 IN OUT"

-- what all that is outside tells at one moment: the screen and its faults, the moments to come, and the host
pub record Scene : Type 0 where
  pub screen : Contents
  pub faults : ℕ
  pub moments : List ℕ
  pub disk : Disk

abbrev pub scene : {S C H : Type 0} → Sinks S → S → Clocks C → C → Hosts H → H → Scene
scene s screen c clock h host = record {
  screen = s.contents screen;
  faults = s.faults screen;
  moments = c.left clock;
  disk = disk_of h host;
}

-- all pages of the entries that are due were shown, and then the image without these entries was written; where the
-- host failed in that, a message follows the pages
pub record Saved (start : State) (moment : ℕ) (out : List ℕ) (before now : Contents) (f g : ℕ) (loaded after : Disk)
    (result : Status) : Type 0 where
  pub ends : IsOr result status.Done
  pub shown : Tried before now f g (pages moment start) (message result)
  pub quiet : result ≡ status.Done → g ≡ f
  pub saves : Saves loaded after out (without_due moment start) result

-- the screen failed within the pages, and the host is as it was
pub record Cut (start : State) (moment : ℕ) (before now : Contents) (f g : ℕ) (loaded after : Disk) (result : Status)
    : Type 0 where
  pub ends : result ≡ status.WriteFault
  pub shown : AddsPart before now (pages moment start)
  pub rose : Rose f g
  pub kept : after ≡ loaded

-- one of both
abbrev pub Printed : State → ℕ → List ℕ → Contents → Contents → ℕ → ℕ → Disk → Disk → Status → Type 0
Printed start moment out before now f g loaded after result =
    Saved start moment out before now f g loaded after result ⊎ Cut start moment before now f g loaded after result

-- before any page a text is tried on the screen, and no moment is taken
pub record Refused (a b : Scene) (text : List ℕ) : Type 0 where
  pub screen : Tried a.screen b.screen a.faults b.faults [] text
  pub moments : b.moments ≡ a.moments

-- the run began in a state, which was read first, took one moment, and printed
pub record Ran (known : Type 0) (form : Form) (a b : Scene) (result : Status) : Type 0 where
  pub start : State
  pub moment : ℕ
  pub loaded : Disk
  pub begins : IsLoaded form.input a.disk loaded × (loaded.faults ≡ a.disk.faults) × Began a.disk form.input start
  pub taken : known → (moment ≡ next_moment a.moments) × (b.moments ≡ later_moments a.moments)
  pub printed : Printed start moment form.out a.screen b.screen a.faults b.faults loaded b.disk result

-- what is at the end of what was asked for so
abbrev pub StandsBy : Type 0 → Form → Scene → Scene → Status → Type 0
StandsBy known form a b result =
    (IsEarly form.input result × Refused a b (message result) × IsLoaded form.input a.disk b.disk)
    ⊎ Ran known form a b result

abbrev pub Stands : Type 0 → Option Form → Scene → Scene → Status → Type 0
Stands known None a b result = (result ≡ status.Usage) × Refused a b (usage ++ end_of_line) × (b.disk ≡ a.disk)
Stands known (Some form) a b result = StandsBy known form a b result

-- the words ask for this form, under which a run begins in this state
abbrev pub Asks : Option Form → Disk → Form → State → Type 0
Asks asked disk form start = (asked ≡ Some form) × Starts disk form.input start

-- by what the words ask for
abbrev pub StartCause : Disk → Option Form → Status → Type 0
StartCause disk None result = Unit {0}
StartCause disk (Some form) result = InputCause disk form.input result

-- the screen's count of faults rose where the status is WriteFault, and stayed where it is Done
abbrev pub ScreenCause : ℕ → ℕ → Status → Type 0
ScreenCause before now status.WriteFault = Rose before now
ScreenCause before now status.Done = now ≡ before
ScreenCause before now result = Unit {0}

-- the statuses that a run may end with
abbrev pub IsPrinting : Status → Type 0
IsPrinting status.ReadFault = ⊥
IsPrinting status.KeyLimit = ⊥
IsPrinting status.Stopped = ⊥
IsPrinting result = Unit {0}

-- every file is as before
abbrev pub AreKept : Disk → Disk → Type 0
AreKept before now = IsTrue before.tells → (name : List ℕ) → now.files name ≡ before.files name

-- there is a moment, that of the clock where it tells, at which this holds
pub record AtMoment (known : Type 0) (moments : List ℕ) (Holds : ℕ → Type 0) : Type 0 where
  pub moment : ℕ
  pub taken : known → moment ≡ next_moment moments
  pub holds : Holds moment

-- at that moment, of a run that begins in this state. Where it is Done the screen was given all pages of the entries
-- that are due, and OUT holds the image without these entries. Where it is WriteFault the screen was given a prefix of
-- the pages, and where it is NoMemory no page, and every file is as before. Where nothing outside failed it is Done, or
-- NoMemory
pub record Follows (form : Form) (start : State) (a b : Scene) (result : Status) (moment : ℕ) : Type 0 where
  pub shown : result ≡ status.Done → b.screen ≡ add a.screen (pages moment start)
  pub saved : result ≡ status.Done → IsTrue b.disk.tells
      → b.disk.files form.out ≡ Some (image_text (without_due moment start))
  pub cut : result ≡ status.WriteFault → AddsPart a.screen b.screen (pages moment start) × AreKept a.disk b.disk
  pub unshown : result ≡ status.NoMemory → AddsPart a.screen b.screen (message status.NoMemory) × AreKept a.disk b.disk
  pub complete : IsQuiet a.faults b.faults → IsQuiet a.disk.faults b.disk.faults
      → (result ≡ status.Done) ⊎ (result ≡ status.NoMemory)

-- all that is known of the run that a form asks for
pub record Course (known : Type 0) (form : Form) (a b : Scene) (result : Status) : Type 0 where
  pub stands : StandsBy known form a b result
  pub printing : IsPrinting result
  pub usage : result ≡ status.Usage → ⊥
  pub cause : ScreenCause a.faults b.faults result
  pub host_cause : HostCause a.disk.faults b.disk.faults result
  pub start : InputCause a.disk form.input result
  pub follows : (start : State) → Starts a.disk form.input start
      → AtMoment known a.moments (Follows form start a b result)
