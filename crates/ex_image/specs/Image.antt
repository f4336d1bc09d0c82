-- The image: the text of a state of the file machine; and what a file holds that it is saved in.
use Rattle.std.specs.Prelude.{◌≡◌, ◌⊎◌, ℕ, List, [], ◌∷◌, ◌++◌, length, map, Option, Some, None}
use Rattle.std.specs.List.{flat_map}
use Rattle.cm_io.specs.Contents.{IsPart}
use Rattle.cm_io.specs.declared.sink.Put.{Put}
use Rattle.cm_io.specs.declared.sink.Put.TheVariants.{Done, Failed}
use Rattle.ex_store.specs.declared.directory.Definition.{Definition}
use Rattle.ex_store.specs.declared.directory.Directory as directories
use Rattle.ex_store.specs.declared.queue.QueueEntry.{QueueEntry}
use Rattle.ex_store.specs.declared.row.Row.{Row}
use Rattle.ex_store.specs.State.{State}
use Rattle.ex_image.specs.declared.version.Version.{Version}
use Rattle.ex_image.specs.declared.version.Version.TheVariants as versions
use Rattle.ex_image.specs.Record.{Entry, Head, Directory, Connected, Logical, File, Request, End, record_text}

-- a record and the bytes after its line
abbrev pub directory_record : directories.Directory → Entry × List ℕ
directory_record directory = (Directory directory.name directory.retention, [])

abbrev pub logical_record : Definition → Entry × List ℕ
logical_record entry = (Logical entry.name entry.directory, [])

-- a row without its bytes
abbrev pub bare : Row → Row
bare row = record row { file = record row.file { bytes = [] } }

abbrev pub file_record : Version → Row → Entry × List ℕ
file_record version row = (File version (bare row) (length row.file.bytes), row.file.bytes)

abbrev pub request_record : QueueEntry → Entry × List ℕ
request_record entry = (Request entry, [])

-- the records of a state in a version, in their order
abbrev pub records_of : Version → State → List (Entry × List ℕ)
records_of version state =
    ((Head version, []) ∷ map directory_record state.directories)
    ++ ((Connected state.connected, []) ∷ map logical_record state.logical)
    ++ map (file_record version) state.rows
    ++ map request_record state.queue
    ++ (End, []) ∷ []

-- the text of a state in a version
abbrev pub text_in : Version → State → List ℕ
text_in version state = flat_map record_text (records_of version state)

-- the image of a state, as it is written
abbrev pub image_text : State → List ℕ
image_text state = text_in versions.Two state

-- a file is absent, as before, or holds a prefix of an image
abbrev pub HoldsPart : List ℕ → Option (List ℕ) → Option (List ℕ) → Type 0
HoldsPart image before now =
    (now ≡ None) ⊎ (now ≡ before) ⊎ ((part : List ℕ) × IsPart part image × (now ≡ Some part))

-- [image-written] saving an image leaves it in the file; where that fails, a prefix of it or less
abbrev pub Saves : List ℕ → Option (List ℕ) → Option (List ℕ) → Put → Type 0
Saves image before now Done = now ≡ Some image
Saves image before now Failed = HoldsPart image before now
