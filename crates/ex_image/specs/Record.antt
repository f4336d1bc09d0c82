-- The records of an image, and the text of each: a line, and after the line of a file its bytes.
use Rattle.std.specs.Prelude.{ℕ, ℤ, Bool, true, false, List, [], ◌∷◌, ◌++◌, Option, Some, None, codes}
use Rattle.std.specs.Fmt.{decimal, signed_decimal}
use Rattle.std.specs.List.{join_with_byte}
use Rattle.ex_store.specs.declared.key.FullName.{FullName}
use Rattle.ex_store.specs.declared.queue.QueueEntry.{QueueEntry}
use Rattle.ex_store.specs.declared.row.Row.{Row}
use Rattle.ex_store.specs.Forms.{form_text}
use Rattle.ex_store.specs.Rows.{full_of}
use Rattle.ex_image.specs.declared.version.Version.{Version}
use Rattle.ex_image.specs.declared.version.Version.TheVariants as versions

-- what a line says: the head, of which version the image is; a directory and how many generations it keeps; the
-- connected directory; a logical name and its directory; a file, in a version, of whose bytes the line says only how
-- many they are; an entry of the print queue; the end
pub data Entry : Type 0 where
  Head : Version → Entry
  Directory : List ℕ → ℕ → Entry
  Connected : List ℕ → Entry
  Logical : List ℕ → List ℕ → Entry
  File : Version → Row → ℕ → Entry
  Request : QueueEntry → Entry
  End : Entry

-- how many generations a file keeps, when it was written, and when it was last read
pub record Stamp : Type 0 where
  pub keep : ℕ
  pub moment : ℕ
  pub read : Option ℕ

abbrev pub stamp_of : Row → Stamp
stamp_of row = record { keep = row.file.keep; moment = row.file.moment; read = row.file.read }

-- the first line of an image
abbrev pub head_text : Version → List ℕ
head_text versions.One = codes "EXEC20 1"
head_text versions.Two = codes "EXEC20 2"

-- fields with one space between
abbrev pub fields : List (List ℕ) → List ℕ
fields = join_with_byte 32

-- name, type and generation with points between
abbrev pub file_text : FullName → List ℕ
file_text full = join_with_byte 46 (full.key.name ∷ full.key.kind ∷ decimal full.generation ∷ [])

-- whether a file is marked as deleted
abbrev pub mark_text : Bool → List ℕ
mark_text true = codes "D"
mark_text false = codes "U"

-- a number, or a hyphen where there is none
abbrev pub optional_text : Option ℕ → List ℕ
optional_text None = codes "-"
optional_text (Some number) = decimal number

-- what a line of a file says of these: in version 1 only when it was written
abbrev pub stamp_text : Version → Stamp → List ℕ
stamp_text versions.One stamp = decimal stamp.moment
stamp_text versions.Two stamp =
    fields (decimal stamp.keep ∷ decimal stamp.moment ∷ optional_text stamp.read ∷ [])

-- the day before which nothing is printed, by its number, or a hyphen where there is none
abbrev pub after_text : Option ℤ → List ℕ
after_text None = codes "-"
after_text (Some day) = signed_decimal day

-- the line of a record, without the line feed that ends it
abbrev pub line_text : Entry → List ℕ
line_text (Head version) = head_text version
line_text (Directory name retention) = fields (codes "D" ∷ name ∷ decimal retention ∷ [])
line_text (Connected name) = fields (codes "C" ∷ name ∷ [])
line_text (Logical name directory) = fields (codes "L" ∷ name ∷ directory ∷ [])
line_text (File version row size) =
    fields (codes "F" ∷ row.key.directory ∷ file_text (full_of row) ∷ mark_text row.file.deleted
    ∷ stamp_text version (stamp_of row) ∷ decimal size ∷ [])
line_text (Request entry) =
    fields (codes "Q" ∷ entry.file.key.directory ∷ file_text entry.file ∷ decimal entry.copies
    ∷ form_text entry.form ∷ after_text entry.after ∷ entry.job ∷ entry.note ∷ [])
line_text End = codes "E"

-- what is after the line: the bytes of a file and a line feed
abbrev pub content_text : Entry → List ℕ → List ℕ
content_text (File version row size) bytes = bytes ++ 10 ∷ []
content_text entry bytes = []

-- the text of a record: its line, a line feed, and what is after it
abbrev pub record_text : Entry × List ℕ → List ℕ
record_text (entry, bytes) = line_text entry ++ 10 ∷ content_text entry bytes
