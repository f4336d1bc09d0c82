-- The records of an image, one after the other: what was read so far, and the next record, or the kind of its fault.
use Rattle.std.specs.Prelude.{ℕ, ◌+◌, Bool, true, false, not, ◌&&◌, nat_lt, nat_le, if◌then◌else◌, List, [], ◌∷◌, length, Option, Some, None, Result, Ok, Err}
use Rattle.std.specs.Ordering.{is_lt, on}
use Rattle.std.specs.declared.cmp.Ordering.{Ordering}
use Rattle.cm_files.specs.Catalogue.{by_bytes}
use Rattle.ex_generations.specs.declared.file.TheConstants.{FILE_LIMIT}
use Rattle.ex_store.specs.declared.limits.TheConstants.{COPIES_LIMIT, DIRECTORY_LIMIT, LOGICAL_LIMIT, QUEUE_LIMIT, RETENTION_LIMIT, ROW_LIMIT, STORE_LIMIT}
use Rattle.ex_store.specs.Draft.{and_directory, and_logical, and_request, and_row, empty_state}
use Rattle.ex_store.specs.Rows.{by_row, total}
use Rattle.ex_store.specs.State.{State, has_directory}
use Rattle.ex_store.specs.WellFormed.{is_day, is_numbered, is_stamped}
use Rattle.cm_io.specs.declared.status.Kind.{Kind}
use Rattle.cm_io.specs.declared.status.Kind.TheVariants.{Cut, Form, Range, Name, Order, Limit}
use Rattle.ex_image.specs.declared.tag.Tag.{Tag}
use Rattle.ex_image.specs.declared.tag.Tag.TheVariants as tags
use Rattle.ex_image.specs.declared.version.Version.{Version}
use Rattle.ex_image.specs.declared.version.Version.TheVariants as versions
use Rattle.ex_image.specs.Fields.{◌>>=◌, content_at, formed, part_at}
use Rattle.ex_image.specs.Lines.{entry_of}
use Rattle.ex_image.specs.Record.{Entry, Head, Directory, Connected, Logical, File, Request, End}

-- in which version the image is, which record was read last, and the state that those so far make; the empty name says
-- that no directory is connected yet
pub record Reading : Type 0 where
  pub version : Version
  pub last : Tag
  pub state : State

-- nothing is read yet; before the head the version is of no account
abbrev pub start : Reading
start = record { version = versions.Two; last = tags.Start; state = empty_state }

abbrev pub tag_of : Entry → Tag
tag_of (Head version) = tags.Head
tag_of (Directory name retention) = tags.Directory
tag_of (Connected name) = tags.Connected
tag_of (Logical name directory) = tags.Logical
tag_of (File version row size) = tags.File
tag_of (Request entry) = tags.Request
tag_of End = tags.End

-- the order of the kinds: a head, one or more directories, the connected one, any logical names, any files, any
-- entries of the print queue, an end
abbrev pub may_follow : Tag → Tag → Bool
may_follow tags.Start tags.Head = true
may_follow tags.Head tags.Directory = true
may_follow tags.Directory tags.Directory = true
may_follow tags.Directory tags.Connected = true
may_follow tags.Connected tags.Logical = true
may_follow tags.Connected tags.File = true
may_follow tags.Connected tags.Request = true
may_follow tags.Connected tags.End = true
may_follow tags.Logical tags.Logical = true
may_follow tags.Logical tags.File = true
may_follow tags.Logical tags.Request = true
may_follow tags.Logical tags.End = true
may_follow tags.File tags.File = true
may_follow tags.File tags.Request = true
may_follow tags.File tags.End = true
may_follow tags.Request tags.Request = true
may_follow tags.Request tags.End = true
may_follow last next = false

-- the numbers are in their ranges
abbrev pub is_in_range : Entry → Bool
is_in_range (Head version) = true
is_in_range (Directory name retention) = nat_le retention RETENTION_LIMIT
is_in_range (Connected name) = true
is_in_range (Logical name directory) = true
is_in_range (File version row size) =
    is_numbered row.file.generation && is_stamped row.file && nat_le size FILE_LIMIT
is_in_range (Request entry) =
    is_numbered entry.file.generation && nat_lt 0 entry.copies && nat_le entry.copies COPIES_LIMIT
    && is_day entry.after
is_in_range End = true

-- the directory that is named is there
abbrev pub is_there : State → Entry → Bool
is_there state (Head version) = true
is_there state (Directory name retention) = true
is_there state (Connected name) = has_directory name state.directories
is_there state (Logical name directory) = has_directory directory state.directories
is_there state (File version row size) = has_directory row.key.directory state.directories
is_there state (Request entry) = has_directory entry.file.key.directory state.directories
is_there state End = true

-- the last of these, where there is one, is below
abbrev pub stands_above : {X : Type 0} → (X → X → Ordering) → List X → X → Bool
stands_above compare [] x = true
stands_above compare (y ∷ []) x = is_lt (compare y x)
stands_above compare (y ∷ z ∷ more) x = stands_above compare (z ∷ more) x

-- it is above the one of its kind before it
abbrev pub is_above : State → Entry → Bool
is_above state (Head version) = true
is_above state (Directory name retention) =
    stands_above (on (λ directory. directory.name) by_bytes) state.directories
    (record { name = name; retention = retention })
is_above state (Connected name) = true
is_above state (Logical name directory) =
    stands_above (on (λ entry. entry.name) by_bytes) state.logical (record { name = name; directory = directory })
is_above state (File version row size) = stands_above by_row state.rows row
is_above state (Request entry) = true
is_above state End = true

-- there is room for one more of its kind, and for the bytes of a file
abbrev pub has_room : State → Entry → Bool
has_room state (Head version) = true
has_room state (Directory name retention) = nat_lt (length state.directories) DIRECTORY_LIMIT
has_room state (Connected name) = true
has_room state (Logical name directory) = nat_lt (length state.logical) LOGICAL_LIMIT
has_room state (File version row size) =
    nat_lt (length state.rows) ROW_LIMIT && nat_le (total state.rows + size) STORE_LIMIT
has_room state (Request entry) = nat_lt (length state.queue) QUEUE_LIMIT
has_room state End = true

-- the first of these four faults that a record has which may be here by its form
unfoldable pub fault_of : State → Entry → Option Kind
fault_of state entry =
    if not (is_in_range entry) then Some Range
    else (if not (is_there state entry) then Some Name
    else (if not (is_above state entry) then Some Order
    else (if not (has_room state entry) then Some Limit else None)))

-- the state with what a record says, and the bytes after its line
abbrev pub with_entry : State → Entry → List ℕ → State
with_entry state (Head version) bytes = state
with_entry state (Directory name retention) bytes = and_directory (record { name = name; retention = retention }) state
with_entry state (Connected name) bytes = record state { connected = name }
with_entry state (Logical name directory) bytes = and_logical (record { name = name; directory = directory }) state
with_entry state (File version row size) bytes = and_row (record row { file = record row.file { bytes = bytes } }) state
with_entry state (Request entry) bytes = and_request entry state
with_entry state End bytes = state

-- a head says in which version the image is
abbrev pub version_after : Version → Entry → Version
version_after version (Head told) = told
version_after version entry = version

abbrev pub with_record : Reading → Entry × List ℕ → Reading
with_record reading (entry, bytes) =
    record {
      version = version_after reading.version entry;
      last = tag_of entry;
      state = with_entry reading.state entry bytes;
    }

abbrev pub is_ended : Tag → Bool
is_ended tags.Start = false
is_ended tags.Head = false
is_ended tags.Directory = false
is_ended tags.Connected = false
is_ended tags.Logical = false
is_ended tags.File = false
is_ended tags.Request = false
is_ended tags.End = true

-- a line that may be here
unfoldable pub standing : Version → Tag → List ℕ → Result Entry Kind
standing version last line = entry_of version line >>= λ entry. formed (λ entry. may_follow last (tag_of entry)) entry

-- the bytes after a line, and what follows
abbrev pub after : Entry → List ℕ → Result (List ℕ × List ℕ) Kind
after (Head version) bytes = Ok ([], bytes)
after (Directory name retention) bytes = Ok ([], bytes)
after (Connected name) bytes = Ok ([], bytes)
after (Logical name directory) bytes = Ok ([], bytes)
after (File version row size) bytes = content_at size bytes
after (Request entry) bytes = Ok ([], bytes)
after End bytes = Ok ([], bytes)

-- a value, unless there is a fault
abbrev pub unless : {A : Type 0} → Option Kind → A → Result A Kind
unless None value = Ok value
unless (Some kind) value = Err kind

-- the next record, and what follows it; or the first kind of its fault. After the end nothing may stand.
unfoldable pub record_after : Reading → List ℕ → Result ((Entry × List ℕ) × List ℕ) Kind
record_after reading bytes = do
  line ← part_at 10 Cut (standing reading.version reading.last) bytes
  content ← after line.0 line.1
  unless (fault_of reading.state line.0) ((line.0, content.0), content.1)

unfoldable pub record_at : Reading → List ℕ → Result ((Entry × List ℕ) × List ℕ) Kind
record_at reading bytes = if is_ended reading.last then Err Form else record_after reading bytes
