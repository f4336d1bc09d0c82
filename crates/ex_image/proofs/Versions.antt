-- What a version tells of the files that were read in it, and which images are of which state.
use Rattle.std.proofs.Common.{◌≡◌, ◌⊎◌, ◌↔◌, inl, inr, ℕ, true, List, [], ◌∷◌, Option, Some, refl, subst, sym}
use Rattle.cm_lists.proofs.Quantifiers.{all_none, all_push}
use Rattle.cm_io.specs.declared.sink.Put.TheVariants.{Done}
use Rattle.ex_store.specs.declared.row.Row.{Row}
use Rattle.ex_store.specs.Draft.{kept_by_directories}
use Rattle.ex_store.specs.State.{State}
use Rattle.ex_store.specs.WellFormed.{IsWellFormed}
use Rattle.ex_store.proofs.RemarkLaws.{rows_kept_by}
use Rattle.ex_image.specs.declared.version.Version.{Version}
use Rattle.ex_image.specs.declared.version.Version.TheVariants as versions
use Rattle.ex_image.specs.Grammar.{IsImage, IsImageIn, Leads, Makes, MayStand, are_told_in, is_told_in, state_in}
use Rattle.ex_image.specs.Image.{Saves, image_text, text_in}
use Rattle.ex_image.specs.Reading.{Reading, start, with_record}
use Rattle.ex_image.specs.Record.{Entry, Head, Directory, Connected, Logical, File, Request, End, stamp_of}
use Rattle.ex_image.proofs.Drafts.{IsSound, sound_more, start_sound}
use Rattle.ex_image.proofs.Endings.{one_state, whole}
use Rattle.ex_image.proofs.Images.{image_told}
use Rattle.ex_image.proofs.LineLaws.{file_shape}
use Rattle.ex_image.proofs.StampLaws.{stamp_shape}
use Rattle.ex_image.proofs.Stands.{nothing_there}
use Rattle.ex_image.proofs.WrittenStates.{image_of}

-- the files that were read so far are told in the version of the image
abbrev AreTold : Reading → Type 0
AreTold reading = are_told_in reading.version reading.state.rows ≡ true

contents_more : (reading : Reading) (next : Entry × List ℕ) → IsSound reading → AreTold reading → MayStand reading next
    → AreTold (with_record reading next)
contents_more reading (Head version, bytes) sound told may =
    all_none (λ (row : Row). is_told_in version (stamp_of row)) reading.state.rows
    (nothing_there reading.last reading.state sound.stands may.place)
contents_more reading (Directory name retention, bytes) sound told may = told
contents_more reading (Connected name, bytes) sound told may = told
contents_more reading (Logical name directory, bytes) sound told may = told
contents_more reading (File written row size, bytes) sound told may =
    let stamp = (stamp_shape written (stamp_of row) (file_shape written row size may.shape).stamp).told in
    all_push (λ (each : Row). is_told_in reading.version (stamp_of each)) reading.state.rows
    (record row { file = record row.file { bytes = bytes } }) told
    (subst (λ version. is_told_in version (stamp_of row) ≡ true) may.written stamp)
contents_more reading (Request entry, bytes) sound told may = told
contents_more reading (End, bytes) sound told may = told

leads_contents : (from to : Reading) (records : List (Entry × List ℕ)) → IsSound from → AreTold from
    → Leads from records to → AreTold to
leads_contents from to [] sound told leads = subst AreTold (sym leads) told
leads_contents from to (next ∷ records) sound told leads =
    leads_contents (with_record from next) to records (sound_more from next sound leads.0)
    (contents_more from next sound told leads.0) leads.1

contents_of : (version : Version) (bytes : List ℕ) (state : State) → IsImageIn version bytes state
    → are_told_in version state.rows ≡ true
unfolding IsImageIn Makes
contents_of version bytes state image = leads_contents start (whole version state) image.0 start_sound refl image.1

-- version 2 tells all files
all_told : (rows : List Row) → are_told_in versions.Two rows ≡ true
all_told [] = refl
all_told (row ∷ rows) = all_told rows

-- an image in version 2 is the text of its state
pub second_is : (bytes : List ℕ) (state : State)
    → IsImageIn versions.Two bytes state ↔ (IsWellFormed state × (bytes ≡ image_text state))
second_is bytes state =
    (image_of versions.Two bytes state, λ told. image_told versions.Two bytes state told.0 (all_told state.rows) told.1)

-- and one in version 1 is that of a state whose files keep 0 and were not read
pub first_is : (bytes : List ℕ) (state : State)
    → IsImageIn versions.One bytes state
    ↔ (IsWellFormed state × (are_told_in versions.One state.rows ≡ true) × (bytes ≡ text_in versions.One state))
first_is bytes state = (there, back) where
  there : IsImageIn versions.One bytes state
      → IsWellFormed state × (are_told_in versions.One state.rows ≡ true) × (bytes ≡ text_in versions.One state)
  there image =
      let is = image_of versions.One bytes state image in (is.0, contents_of versions.One bytes state image, is.1)

  back : IsWellFormed state × (are_told_in versions.One state.rows ≡ true) × (bytes ≡ text_in versions.One state)
      → IsImageIn versions.One bytes state
  back told = image_told versions.One bytes state told.0 told.1 told.2

-- a migrated state is well formed
kept_formed : (said : State) → IsWellFormed said → IsWellFormed (kept_by_directories said)
kept_formed said good = record {
  draft = record {
    directories_ascend = good.draft.directories_ascend;
    directories_within = good.draft.directories_within;
    few_directories = good.draft.few_directories;
    logical_ascend = good.draft.logical_ascend;
    logical_within = good.draft.logical_within;
    few_logical = good.draft.few_logical;
    rows = rows_kept_by said.directories said.rows good.draft.directories_within good.draft.rows;
    queue_within = good.draft.queue_within;
    few_entries = good.draft.few_entries;
  };
  connected_there = good.connected_there;
}

formed_in : (version : Version) (said : State) → IsWellFormed said → IsWellFormed (state_in version said)
formed_in versions.One said good = kept_formed said good
formed_in versions.Two said good = good

pub well_formed_image : (bytes : List ℕ) (state : State) → IsImage bytes state → IsWellFormed state
unfolding IsImage
well_formed_image bytes state image =
    subst IsWellFormed (sym image.3) (formed_in image.0 image.1 (image_of image.0 bytes image.1 image.2).0)

-- an image is one of either version
abbrev IsOfEither : List ℕ → State → Type 0
IsOfEither bytes state =
    IsImageIn versions.Two bytes state
    ⊎ ((said : State) × IsImageIn versions.One bytes said × (state ≡ kept_by_directories said))

either_of : (bytes : List ℕ) (state : State) (version : Version) (said : State) → IsImageIn version bytes said
    → state ≡ state_in version said → IsOfEither bytes state
either_of bytes state versions.One said image is = inr (said, image, is)
either_of bytes state versions.Two said image is =
    inl (subst (λ at. IsImageIn versions.Two bytes at) (sym is) image)

image_of_either : (bytes : List ℕ) (state : State) → IsOfEither bytes state → IsImage bytes state
unfolding IsImage
image_of_either bytes state (inl image) = (versions.Two, state, image, refl)
image_of_either bytes state (inr one) = (versions.One, one.0, one.1, one.2)

pub either_version : (bytes : List ℕ) (state : State) → IsImage bytes state ↔ IsOfEither bytes state
unfolding IsImage
either_version bytes state =
    (λ image. either_of bytes state image.0 image.1 image.2 image.3, image_of_either bytes state)

-- what is written is read
pub written_read : (state : State) (before : Option (List ℕ)) (bytes : List ℕ) → IsWellFormed state
    → Saves (image_text state) before (Some bytes) Done
    → IsImage bytes state × ((other : State) → IsImage bytes other → other ≡ state)
written_read state before bytes good saved =
    let same : bytes ≡ image_text state = cc in
    let image = image_of_either bytes state (inl (image_told versions.Two bytes state good (all_told state.rows) same)) in
    (image, λ other second. one_state bytes other state second image)
