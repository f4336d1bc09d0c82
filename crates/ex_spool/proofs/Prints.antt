-- What is known of a run that prints, and of one that does not begin.
-- What a run does is one of two records (Saved, Cut), within Course.
use Rattle.std.proofs.Common.{◌≡◌, ℕ, Bool, List, [], ◌∷◌, ◌++◌, Option, None, Some, IsTrue, refl, sym, ap, ◌∙◌, subst, inl, inr}
use Rattle.std.proofs.lemmas.List.{append-nil}
use Rattle.cm_io.specs.Clock.{later_moments, next_moment}
use Rattle.cm_io.specs.Fault.{Rose}
use Rattle.cm_io.specs.Contents.{AddsPart, Contents, IsPart, add}
use Rattle.cm_io.specs.declared.status.Status.{Status}
use Rattle.cm_io.specs.declared.status.Status.TheVariants as status
use Rattle.ex_image.specs.Image.{image_text}
use Rattle.ex_store.specs.State.{State}
use Rattle.ex_system.specs.Disk.{Disk}
use Rattle.ex_system.specs.Form.{Form}
use Rattle.ex_system.specs.Messages.{message}
use Rattle.ex_system.specs.Quiet.{IsQuiet}
use Rattle.ex_system.specs.Saving.{HostCause, IsOr, Keeps, Saves}
use Rattle.ex_system.specs.Start.{Began, InputCause, IsEarly, IsLoaded, IsRun, Starts}
use Rattle.ex_system.specs.Trying.{Tried}
use Rattle.ex_system.proofs.Starts.{began_cause, early_memory, not_quiet, one_start}
use Rattle.ex_system.proofs.Trials.{tried_after}
use Rattle.ex_spool.specs.Spool.{pages, without_due}
use Rattle.ex_spool.specs.RunEnd.{AreKept, Course, Follows, IsPrinting, Printed, Scene, ScreenCause}

-- the pages were shown and the image is written
pub printed_whole : (start : State) (moment : ℕ) (out : List ℕ) (before middle now : Contents) (f g h : ℕ) (loaded after : Disk)
    (left : State) (result : Status) → middle ≡ add before (pages moment start) → g ≡ f → left ≡ without_due moment start
    → IsOr result status.Done → Tried middle now g h [] (message result) → (result ≡ status.Done → h ≡ g)
    → Saves loaded after out left result → Printed start moment out before now f h loaded after result
printed_whole start moment out before middle now f g h loaded after left result put same leaves ends tried quiet saves = inl (record {
  ends = ends;
  shown = tried_after before middle now f g h (pages moment start) (message result) put same tried;
  quiet = λ done. quiet done ∙ same;
  saves = subst (λ (it : State). Saves loaded after out it result) leaves saves;
})

-- the statuses that may come before any page
early_printing : (input : Option (List ℕ)) (result : Status) → IsEarly input result → IsPrinting result
early_printing input status.NoMemory early = tt
early_printing (Some name) status.HostFault early = tt
early_printing (Some name) status.NoImage early = tt
early_printing (Some name) status.ImageTooLarge early = tt
early_printing (Some name) (status.BadImage at kind) early = tt
early_printing input result early = absurd early

early_cause : (input : Option (List ℕ)) (f g : ℕ) (result : Status) → IsEarly input result → ScreenCause f g result
early_cause input f g status.NoMemory early = tt
early_cause (Some name) f g status.HostFault early = tt
early_cause (Some name) f g status.NoImage early = tt
early_cause (Some name) f g status.ImageTooLarge early = tt
early_cause (Some name) f g (status.BadImage at kind) early = tt
early_cause input f g result early = absurd early

no_usage : (input : Option (List ℕ)) → IsEarly input status.Usage → ⊥
no_usage None early = early
no_usage (Some name) early = early

no_done : (input : Option (List ℕ)) → IsEarly input status.Done → ⊥
no_done None early = early
no_done (Some name) early = early

no_write_fault : (input : Option (List ℕ)) → IsEarly input status.WriteFault → ⊥
no_write_fault None early = early
no_write_fault (Some name) early = early

-- a text that is tried at once is there in part
tried_part : (before now : Contents) (f g : ℕ) (text : List ℕ) → Tried before now f g [] text → AddsPart before now text
tried_part before now f g text tried = record { part = tried.part; is_part = tried.is_part; added = tried.contents }

-- where a status does not come, what it says holds
never : {P : Type 0} (input : Option (List ℕ)) (result other : Status) → IsEarly input result → (IsEarly input other → ⊥)
    → result ≡ other → P
never input result other early none is = absurd (none (subst (λ (it : Status). IsEarly input it) is early))

-- before any page
module _ (known : Type 0) (form : Form) (a b : Scene) (why result : Status) (same : result ≡ why)
    (early : IsEarly form.input why) (cause : InputCause a.disk form.input why)
    (host : HostCause a.disk.faults b.disk.faults why)
    (tried : Tried a.screen b.screen a.faults b.faults [] (message why)) (loads : IsLoaded form.input a.disk b.disk)
    (moments : b.moments ≡ a.moments) where
  early_follows : (start : State) → Starts a.disk form.input start → (moment : ℕ) → Follows form start a b why moment
  early_follows start starts moment = record {
    shown = λ done. never form.input why status.Done early (no_done form.input) done;
    saved = λ done _. never form.input why status.Done early (no_done form.input) done;
    cut = λ failed. never form.input why status.WriteFault early (no_write_fault form.input) failed;
    unshown = λ wanting. (
      subst (λ (it : Status). AddsPart a.screen b.screen (message it)) wanting
          (tried_part a.screen b.screen a.faults b.faults (message why) tried),
      loads.files,
    );
    complete = λ screen disk. inr (early_memory a.disk form.input start a.disk.faults b.disk.faults why early cause starts host disk);
  }

  early_course : Course known form a b why
  early_course = record {
    stands = inl (early, record { screen = tried; moments = moments }, loads);
    printing = early_printing form.input why early;
    usage = λ usage. never form.input why status.Usage early (no_usage form.input) usage;
    cause = early_cause form.input a.faults b.faults why early;
    host_cause = host;
    start = cause;
    follows = λ start starts.
        record { moment = next_moment a.moments; taken = λ _. refl; holds = early_follows start starts (next_moment a.moments) };
  }

  pub course_early : Course known form a b result
  course_early = subst (λ (it : Status). Course known form a b it) (sym same) early_course

-- by how a run ended that printed
module _ (start : State) (moment : ℕ) (out : List ℕ) (a b : Scene) (loaded : Disk) (result : Status) where
  abbrev Holds : Type 0
  Holds = Printed start moment out a.screen b.screen a.faults b.faults loaded b.disk result

  or_done : (P : Status → Type 0) → P status.Done → P status.HostFault → IsOr result status.Done → P result
  or_done P done host (inl is) = subst P (sym is) done
  or_done P done host (inr is) = subst P (sym is) host

  past_printing : Holds → IsPrinting result
  past_printing (inl saved) = or_done IsPrinting tt tt saved.ends
  past_printing (inr cut) = subst IsPrinting (sym cut.ends) tt

  past_run : Holds → IsRun result
  past_run (inl saved) = or_done IsRun tt tt saved.ends
  past_run (inr cut) = subst IsRun (sym cut.ends) tt

  past_usage : Holds → result ≡ status.Usage → ⊥
  past_usage holds is = subst IsRun is (past_run holds)

  past_memory : Holds → result ≡ status.NoMemory → ⊥
  past_memory (inl saved) is = by saved.ends
    where
      by : IsOr result status.Done → ⊥
      by (inl done) = let wrong : status.NoMemory ≡ status.Done = sym is ∙ done in absurd (cc)
      by (inr host) = let wrong : status.NoMemory ≡ status.HostFault = sym is ∙ host in absurd (cc)
  past_memory (inr cut) is = let wrong : status.NoMemory ≡ status.WriteFault = sym is ∙ cut.ends in absurd (cc)

  past_cause : Holds → ScreenCause a.faults b.faults result
  past_cause (inl saved) = by saved.ends
    where
      by : IsOr result status.Done → ScreenCause a.faults b.faults result
      by (inl is) = subst (λ (it : Status). ScreenCause a.faults b.faults it) (sym is) (saved.quiet is)
      by (inr is) = subst (λ (it : Status). ScreenCause a.faults b.faults it) (sym is) tt
  past_cause (inr cut) = subst (λ (it : Status). ScreenCause a.faults b.faults it) (sym cut.ends) cut.rose

  past_host : loaded.faults ≡ a.disk.faults → Holds → HostCause a.disk.faults b.disk.faults result
  past_host same (inl saved) = subst (λ (count : ℕ). HostCause count b.disk.faults result) same saved.saves.cause
  past_host same (inr cut) =
      subst (λ (it : Status). HostCause a.disk.faults b.disk.faults it) (sym cut.ends)
      (ap (λ (disk : Disk). disk.faults) cut.kept ∙ same)

  -- a message of no bytes is there whole
  none_part : (part : List ℕ) → IsPart part [] → part ≡ []
  none_part [] is = refl
  none_part (byte ∷ part) is = absurd (cc is.joined)

  past_shown : Holds → result ≡ status.Done → b.screen ≡ add a.screen (pages moment start)
  past_shown (inl saved) done =
      let none : saved.shown.part ≡ [] =
      none_part saved.shown.part (subst (λ (it : Status). IsPart saved.shown.part (message it)) done saved.shown.is_part) in
      saved.shown.contents ∙ ap (λ (bytes : List ℕ). add a.screen (pages moment start ++ bytes)) none
      ∙ ap (λ (bytes : List ℕ). add a.screen bytes) (append-nil (pages moment start))
  past_shown (inr cut) done = let wrong : status.Done ≡ status.WriteFault = sym done ∙ cut.ends in absurd (cc)

  past_saved : Holds → result ≡ status.Done → IsTrue loaded.tells
      → b.disk.files out ≡ Some (image_text (without_due moment start))
  past_saved (inl saved) done tells =
      subst (λ (it : Status). Keeps (image_text (without_due moment start)) (loaded.files out) (b.disk.files out) it) done
      (saved.saves.file tells)
  past_saved (inr cut) done tells = let wrong : status.Done ≡ status.WriteFault = sym done ∙ cut.ends in absurd (cc)

  past_cut : AreKept a.disk loaded → Holds → result ≡ status.WriteFault
      → AddsPart a.screen b.screen (pages moment start) × AreKept a.disk b.disk
  past_cut files (inl saved) failed = by saved.ends
    where
      by : IsOr result status.Done → AddsPart a.screen b.screen (pages moment start) × AreKept a.disk b.disk
      by (inl is) = let wrong : status.WriteFault ≡ status.Done = sym failed ∙ is in absurd (cc)
      by (inr is) = let wrong : status.WriteFault ≡ status.HostFault = sym failed ∙ is in absurd (cc)
  past_cut files (inr cut) failed =
      (cut.shown, subst (λ (disk : Disk). AreKept a.disk disk) (sym cut.kept) files)

  past_quiet : loaded.faults ≡ a.disk.faults → Holds → IsQuiet a.faults b.faults → IsQuiet a.disk.faults b.disk.faults
      → result ≡ status.Done
  past_quiet same (inl saved) screen host = by saved.ends
    where
      by : IsOr result status.Done → result ≡ status.Done
      by (inl is) = is
      by (inr is) =
          absurd (not_quiet a.disk.faults b.disk.faults
          (subst (λ (it : Status). HostCause a.disk.faults b.disk.faults it) is (past_host same (inl saved))) host)
  past_quiet same (inr cut) screen host = absurd (not_quiet a.faults b.faults cut.rose screen)

-- the run that printed
module _ (known : Type 0) (form : Form) (a b : Scene) (result : Status) (start : State) (moment : ℕ) (loaded : Disk)
    (loads : IsLoaded form.input a.disk loaded) (stays : loaded.faults ≡ a.disk.faults)
    (began : Began a.disk form.input start)
    (taken : known → (moment ≡ next_moment a.moments) × (b.moments ≡ later_moments a.moments))
    (tells_same : loaded.tells ≡ b.disk.tells)
    (printed : Printed start moment form.out a.screen b.screen a.faults b.faults loaded b.disk result) where
  run : IsRun result
  run = past_run start moment form.out a b loaded result printed

  follows : Follows form start a b result moment
  follows = record {
    shown = past_shown start moment form.out a b loaded result printed;
    saved = λ done known. past_saved start moment form.out a b loaded result printed done
        (subst (λ (it : Bool). IsTrue it) (sym tells_same) known);
    cut = past_cut start moment form.out a b loaded result loads.files printed;
    unshown = λ wanting. absurd (past_memory start moment form.out a b loaded result printed wanting);
    complete = λ screen host. inl (past_quiet start moment form.out a b loaded result stays printed screen host);
  }

  pub course_past : Course known form a b result
  course_past = record {
    stands = inr (record {
      start = start;
      moment = moment;
      loaded = loaded;
      begins = (loads, stays, began);
      taken = taken;
      printed = printed;
    });
    printing = past_printing start moment form.out a b loaded result printed;
    usage = past_usage start moment form.out a b loaded result printed;
    cause = past_cause start moment form.out a b loaded result printed;
    host_cause = past_host start moment form.out a b loaded result stays printed;
    start = began_cause a.disk form.input start result began run;
    follows = λ other starts. record {
      moment = moment;
      taken = λ tells. (taken tells).0;
      holds = subst (λ (it : State). Follows form it a b result moment) (one_start a.disk form.input start other began starts) follows;
    };
  }

-- the run whose screen failed within the pages
pub course_cut : (known : Type 0) (form : Form) (a b : Scene) (start : State) (moment : ℕ) → IsLoaded form.input a.disk b.disk
    → b.disk.faults ≡ a.disk.faults → Began a.disk form.input start
    → (known → (moment ≡ next_moment a.moments) × (b.moments ≡ later_moments a.moments))
    → AddsPart a.screen b.screen (pages moment start) → Rose a.faults b.faults → Course known form a b status.WriteFault
course_cut known form a b start moment loads stays began taken shown rose =
    course_past known form a b status.WriteFault start moment b.disk loads stays began taken refl
    (inr (record { ends = refl; shown = shown; rose = rose; kept = refl }))
