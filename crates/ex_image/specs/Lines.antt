-- The lines of an image, as they are read: each gives what it says, or the kind of its fault.
use Rattle.std.specs.Prelude.{ℕ, Bool, if◌then◌else◌, List, [], codes, None, Result, Ok, Err}
use Rattle.std.specs.Str.{bytes_eq}
use Rattle.ex_store.specs.declared.key.FullName.{FullName}
use Rattle.ex_store.specs.declared.row.Row.{Row}
use Rattle.cm_io.specs.declared.status.Kind.{Kind}
use Rattle.cm_io.specs.declared.status.Kind.TheVariants.{Form}
use Rattle.ex_image.specs.declared.version.Version.{Version}
use Rattle.ex_image.specs.declared.version.Version.TheVariants as versions
use Rattle.ex_image.specs.Fields.{◌>>=◌, after_of, cut, directory_of, field_at, file_of, form_of, job_of, logical_of, mark_of, note_of, number_of, optional_of}
use Rattle.ex_image.specs.Record.{Entry, Head, Directory, Connected, Logical, File, Request, End, Stamp, head_text}

-- a row of a file of this name, with this mark and stamp, and no bytes
abbrev pub row_of : FullName → Bool → Stamp → Row
row_of full deleted stamp =
    record {
      key = full.key;
      file = record {
        generation = full.generation;
        deleted = deleted;
        keep = stamp.keep;
        moment = stamp.moment;
        read = stamp.read;
        bytes = [];
      };
    }

-- a directory, and how many generations it keeps
unfoldable pub directory_line : List ℕ → Result Entry Kind
directory_line bytes = do
  name ← field_at directory_of bytes
  retention ← number_of name.1
  Ok (Directory name.0 retention)

-- the connected directory
unfoldable pub connected_line : List ℕ → Result Entry Kind
connected_line bytes = do
  name ← directory_of bytes
  Ok (Connected name)

-- a logical name and its directory
unfoldable pub logical_line : List ℕ → Result Entry Kind
logical_line bytes = do
  name ← field_at logical_of bytes
  directory ← directory_of name.1
  Ok (Logical name.0 directory)

-- when a file was written, as version 1 says it; it keeps all generations, and was not read
unfoldable pub first_stamp : List ℕ → Result (Stamp × List ℕ) Kind
first_stamp bytes = do
  moment ← field_at number_of bytes
  Ok (record { keep = 0; moment = moment.0; read = None }, moment.1)

-- how many generations a file keeps, when it was written, and when it was last read
unfoldable pub second_stamp : List ℕ → Result (Stamp × List ℕ) Kind
second_stamp bytes = do
  keep ← field_at number_of bytes
  moment ← field_at number_of keep.1
  read ← field_at optional_of moment.1
  Ok (record { keep = keep.0; moment = moment.0; read = read.0 }, read.1)

abbrev pub stamp_at : Version → List ℕ → Result (Stamp × List ℕ) Kind
stamp_at versions.One bytes = first_stamp bytes
stamp_at versions.Two bytes = second_stamp bytes

-- a file, and how many bytes it has
unfoldable pub file_line : Version → List ℕ → Result Entry Kind
file_line version bytes = do
  directory ← field_at directory_of bytes
  file ← field_at (file_of directory.0) directory.1
  mark ← field_at mark_of file.1
  stamp ← stamp_at version mark.1
  size ← number_of stamp.1
  Ok (File version (row_of file.0 mark.0 stamp.0) size)

-- an entry of the print queue
unfoldable pub request_line : List ℕ → Result Entry Kind
request_line bytes = do
  directory ← field_at directory_of bytes
  file ← field_at (file_of directory.0) directory.1
  copies ← field_at number_of file.1
  form ← field_at form_of copies.1
  after ← field_at after_of form.1
  job ← field_at job_of after.1
  note ← note_of job.1
  Ok (Request (record { file = file.0; copies = copies.0; form = form.0; after = after.0; job = job.0; note = note }))

-- what follows the letter of a record
unfoldable pub lettered : Version → List ℕ → List ℕ → Result Entry Kind
lettered version letter bytes =
    if bytes_eq letter (codes "D") then directory_line bytes
    else (if bytes_eq letter (codes "C") then connected_line bytes
    else (if bytes_eq letter (codes "L") then logical_line bytes
    else (if bytes_eq letter (codes "F") then file_line version bytes
    else (if bytes_eq letter (codes "Q") then request_line bytes else Err Form))))

-- a line in a version, without the line feed that ends it
unfoldable pub entry_of : Version → List ℕ → Result Entry Kind
entry_of version line =
    if bytes_eq line (head_text versions.One) then Ok (Head versions.One)
    else (if bytes_eq line (head_text versions.Two) then Ok (Head versions.Two)
    else (if bytes_eq line (codes "E") then Ok End
    else (cut 32 Form line >>= λ letter. lettered version letter.0 letter.1)))
