-- What one who reads an image may rest on.
use Rattle.std.proofs.Common.{◌≡◌, IfOk, IfErr, Result, ℕ, Bool, true, false, List, [], Ok, Err, refl, subst, sym}
use Rattle.std.proofs.lemmas.Bool.{false≢true}
use Rattle.ex_store.specs.State.{StoreWithRoom, State, has_directory}
use Rattle.ex_store.specs.WellFormed.{IsDraft}
use Rattle.ex_image.specs.declared.fault.ImageFault.{ImageFault}
use Rattle.ex_image.specs.declared.fault.ImageFault.TheVariants.{Bad, NoMemory}
use Rattle.cm_io.specs.declared.status.Kind.{Kind}
use Rattle.ex_image.specs.declared.tag.Tag.{Tag}
use Rattle.ex_image.specs.declared.tag.Tag.TheVariants as tags
use Rattle.ex_image.specs.declared.version.Version.{Version}
use Rattle.ex_image.specs.declared.version.Version.TheVariants as versions
use Rattle.ex_image.specs.Decoding.{IsBadAt, IsStore, Tells}
use Rattle.ex_image.specs.Grammar.{FirstBad, IsImage, IsImageIn, Makes, MayStand, state_in}
use Rattle.ex_image.specs.Reading.{Reading, record_at, with_entry}
use Rattle.ex_image.specs.Record.{Entry, Connected}
use Rattle.ex_image.proofs.Drafts.{draft_more, makes_sound}
use Rattle.ex_image.proofs.Endings.{image_here, never_bad, one_bad, one_state, whole}
use Rattle.ex_image.proofs.RecordLaws.{record_takes}
use Rattle.ex_image.proofs.Stands.{IsConnected, Stands}

-- and with a record more that may be there
pub drafted_more : (bytes : List ℕ) (reading : Reading) (rest : List ℕ) (entry : Entry) (content : List ℕ)
    → Makes bytes reading rest → MayStand reading (entry, content) → IsDraft (with_entry reading.state entry content)
drafted_more bytes reading rest entry content made may =
    let sound = makes_sound bytes reading rest made in
    draft_more reading entry content sound.draft sound.stands may

-- so with the record that is read there
pub drafted_read : (bytes : List ℕ) (reading : Reading) (rest : List ℕ) (part : (Entry × List ℕ) × List ℕ)
    → Makes bytes reading rest → record_at reading rest ≡ Ok part → IsDraft (with_entry reading.state part.0.0 part.0.1)
drafted_read bytes reading rest part made is =
    drafted_more bytes reading rest part.0.0 part.0.1 made (record_takes reading rest part is).stands

-- a directory is connected
abbrev pub is_connected : Tag → Bool
is_connected tags.Start = false
is_connected tags.Head = false
is_connected tags.Directory = false
is_connected tags.Connected = true
is_connected tags.Logical = true
is_connected tags.File = true
is_connected tags.Request = true
is_connected tags.End = true

stands_connected : (last : Tag) (state : State) → Stands last state → is_connected last ≡ true → IsConnected state
stands_connected tags.Connected state stands late = stands.3
stands_connected tags.Logical state stands late = stands.2
stands_connected tags.File state stands late = stands.1
stands_connected tags.Request state stands late = stands
stands_connected tags.End state stands late = stands
stands_connected last state stands late = absurd (false≢true late)

-- then that directory is there
pub connected_there : (bytes : List ℕ) (reading : Reading) (rest : List ℕ) → Makes bytes reading rest
    → is_connected reading.last ≡ true → has_directory reading.state.connected reading.state.directories ≡ true
connected_there bytes reading rest made late =
    stands_connected reading.last reading.state (makes_sound bytes reading rest made).stands late

-- so in the state of an image
there_in : (version : Version) (said : State) → has_directory said.connected said.directories ≡ true
    → has_directory (state_in version said).connected (state_in version said).directories ≡ true
there_in versions.One said there = there
there_in versions.Two said there = there

-- [image-fault]
-- [image-read]
pub whole_there : (bytes : List ℕ) (version : Version) (said state : State) → IsImageIn version bytes said
    → state ≡ state_in version said → has_directory state.connected state.directories ≡ true
unfolding IsImageIn
whole_there bytes version said state image is =
    let there = connected_there bytes (whole version said) [] image refl in
    subst (λ (state : State). has_directory state.connected state.directories ≡ true) (sym is)
    (there_in version said there)

-- and the store has that state
pub store_told : (bytes : List ℕ) (version : Version) (said state : State) → IsImageIn version bytes said
    → state ≡ state_in version said → IsImage bytes state
store_told bytes version said state image is =
    subst (IsImage bytes) (sym is) (image_here bytes version said image)

-- where an image was read, or the first wrong record is told, no other store comes of an image
pub only_told : (bytes : List ℕ) (result : Result StoreWithRoom ImageFault) → IfOk result (λ store. IsImage bytes store.state)
    → IfErr result (λ fault. Tells bytes fault) → (wanted : State) → IsImage bytes wanted → IsStore result wanted
only_told bytes (Ok store) image bad wanted other = one_state bytes store.state wanted image other
only_told bytes (Err (Bad at kind)) image bad wanted other = absurd (never_bad bytes wanted at kind other bad)
only_told bytes (Err NoMemory) image bad wanted other = tt

-- and no other place is told
pub first_told : (bytes : List ℕ) (result : Result StoreWithRoom ImageFault) → IfOk result (λ store. IsImage bytes store.state)
    → IfErr result (λ fault. Tells bytes fault) → (place : ℕ) (kind : Kind) → FirstBad bytes place kind
    → IsBadAt result place kind
first_told bytes (Ok store) image bad place kind other = absurd (never_bad bytes store.state place kind image other)
first_told bytes (Err (Bad at fault)) image bad place kind other = one_bad bytes at place fault kind bad other
first_told bytes (Err NoMemory) image bad place kind other = tt
