-- How many bytes the records of an image have at most.
use Rattle.std.proofs.Common.{◌≡◌, ℕ, ℤ, pos, negsuc, zero, suc, ◌+◌, ◌*◌, ◌^◌, ◌<◌, ◌≤◌, Bool, true, false, List, [], ◌∷◌, ◌++◌, codes, length, map, Option, Some, None, refl, ap, arith, length-append}
use Rattle.std.specs.Fmt.{decimal}
use Rattle.std.specs.List.{flat_map, join_with_byte}
use Rattle.std.proofs.lemmas.Bool.{and_parts, leb-true, ltb-true}
use Rattle.std.proofs.lemmas.Fmt.{length-decimal-le}
use Rattle.std.proofs.lemmas.List.Sums.{sum_by-cons}
use Rattle.cm_text.specs.declared.name.TheConstants.{NAME_LIMIT}
use Rattle.cm_files.specs.Catalogue.{is_directory_name}
use Rattle.cm_files.specs.LogicalName.{is_logical_name}
use Rattle.ex_store.specs.declared.key.FullName.{FullName}
use Rattle.ex_store.specs.declared.row.Row.{Row}
use Rattle.ex_store.specs.Forms.{form_text}
use Rattle.ex_store.specs.Rows.{full_of, total}
use Rattle.ex_store.specs.State.{State}
use Rattle.ex_store.specs.WellFormed.{IsDraft, is_file_name, is_file_type}
use Rattle.ex_image.specs.declared.tag.Tag.{Tag}
use Rattle.ex_image.specs.declared.tag.Tag.TheVariants as tags
use Rattle.ex_image.specs.declared.version.Version.{Version}
use Rattle.ex_image.specs.declared.version.Version.TheVariants as versions
use Rattle.ex_image.specs.Fields.{is_logical, is_note}
use Rattle.ex_image.specs.Grammar.{IsImage, IsImageIn, Leads, Makes, is_shaped, is_short, is_short_day, is_short_optional, is_stamp}
use Rattle.ex_image.specs.Image.{directory_record, file_record, logical_record, request_record}
use Rattle.ex_image.specs.Reading.{Reading, start, with_record}
use Rattle.ex_image.specs.Record.{Entry, Head, Directory, Connected, Logical, File, Request, End, Stamp, after_text, content_text, file_text, line_text, mark_text, optional_text, record_text, stamp_of, stamp_text}
use Rattle.ex_image.proofs.Drafts.{makes_sound, start_sound}
use Rattle.ex_image.proofs.Endings.{whole}
use Rattle.ex_image.proofs.FileLaws.{IsFile, day_short}
use Rattle.ex_image.proofs.LineLaws.{file_shape}
use Rattle.ex_image.proofs.RequestLaws.{request_shape}
use Rattle.ex_image.proofs.StampLaws.{stamp_shape}
use Rattle.ex_image.proofs.WrittenStates.{leads_written, written}

-- pieces, each with one byte more
abbrev pieces : List (List ℕ) → ℕ
pieces [] = 0
pieces (part ∷ parts) = length part + 1 + pieces parts

joined_size : (byte : ℕ) (parts : List (List ℕ)) → length (join_with_byte byte parts) ≤ pieces parts
joined_size byte [] = omega arith
joined_size byte (part ∷ []) = omega arith
joined_size byte (part ∷ next ∷ parts) =
    let more = joined_size byte (next ∷ parts) in
    omega (arith, length-append part (byte ∷ join_with_byte byte (next ∷ parts)))

number_size : (number : ℕ) → is_short number ≡ true → length (decimal number) ≤ 10
number_size number short =
    let small : number < 10 ^ 10 = ltb-true number (10 ^ 10) short in
    length-decimal-le 10 number (omega arith) small (omega arith)

directory_size : (name : List ℕ) → is_directory_name name ≡ true → length name ≤ 39
directory_size name named = leb-true (length name) NAME_LIMIT (and_parts _ _ named).0

logical_size : (name : List ℕ) → is_logical name ≡ true → length name ≤ 39
unfolding is_logical_name
logical_size name named =
    let first = (and_parts _ _ (and_parts _ _ (and_parts _ _ (and_parts _ _ (and_parts _ _ named).0).0).0).0).0 in
    leb-true (length name) NAME_LIMIT (and_parts _ _ first).0

name_size : (name : List ℕ) → is_file_name name ≡ true → length name ≤ 39
name_size name named = leb-true (length name) NAME_LIMIT (and_parts _ _ (and_parts _ _ named).0).1

kind_size : (kind : List ℕ) → is_file_type kind ≡ true → length kind ≤ 39
kind_size kind typed = leb-true (length kind) NAME_LIMIT (and_parts _ _ typed).0

note_size : (note : List ℕ) → is_note note ≡ true → length note ≤ 39
note_size note noted = leb-true (length note) NAME_LIMIT (and_parts _ _ noted).0

file_size : (directory : List ℕ) (full : FullName) → IsFile directory full → length (file_text full) ≤ 91
file_size directory full is =
    let name = name_size full.key.name is.name in
    let kind = kind_size full.key.kind is.kind in
    let generation = number_size full.generation is.generation in
    let joined = joined_size 46 (full.key.name ∷ full.key.kind ∷ decimal full.generation ∷ []) in
    omega arith

mark_size : (deleted : Bool) → length (mark_text deleted) ≤ 1
mark_size true = omega arith
mark_size false = omega arith

form_size : (form : ℕ) → length (form_text form) ≤ 6
form_size zero = omega arith
form_size (suc zero) = omega arith
form_size (suc (suc form)) = omega arith

after_size : (after : Option ℤ) → is_short_day after ≡ true → length (after_text after) ≤ 10
after_size None short = omega arith
after_size (Some (pos day)) short = number_size day (day_short day short)
after_size (Some (negsuc day)) short = absurd (cc)

optional_size : (number : Option ℕ) → is_short_optional number ≡ true → length (optional_text number) ≤ 10
optional_size None short = omega arith
optional_size (Some number) short = number_size number short

stamp_size : (version : Version) (stamp : Stamp) → is_stamp version stamp ≡ true
    → length (stamp_text version stamp) ≤ 33
stamp_size versions.One stamp good =
    let one = number_size stamp.moment (stamp_shape versions.One stamp good).moment in omega arith
stamp_size versions.Two stamp good =
    let shape = stamp_shape versions.Two stamp good in
    let one = number_size stamp.keep shape.keep in
    let two = number_size stamp.moment shape.moment in
    let three = optional_size stamp.read shape.read in
    let joined = joined_size 32 (decimal stamp.keep ∷ decimal stamp.moment ∷ optional_text stamp.read ∷ []) in
    omega arith

-- a record has at most 400 bytes beside those of a file
record_size : (line content : List ℕ) (most : ℕ) → length line ≤ 398 → length content ≤ most + 1
    → length (line ++ 10 ∷ content) ≤ 400 + most
record_size line content most short few = omega (arith, length-append line (10 ∷ content))

line_size : (entry : Entry) → is_shaped entry ≡ true → length (line_text entry) ≤ 398
line_size (Head versions.One) shape = omega arith
line_size (Head versions.Two) shape = omega arith
line_size (Directory name retention) shape =
    let both = and_parts (is_directory_name name) (is_short retention) shape in
    let one = directory_size name both.0 in
    let two = number_size retention both.1 in
    let joined = joined_size 32 (codes "D" ∷ name ∷ decimal retention ∷ []) in
    omega arith
line_size (Connected name) shape =
    let one = directory_size name shape in
    let joined = joined_size 32 (codes "C" ∷ name ∷ []) in
    omega arith
line_size (Logical name directory) shape =
    let both = and_parts (is_logical name) (is_directory_name directory) shape in
    let one = logical_size name both.0 in
    let two = directory_size directory both.1 in
    let joined = joined_size 32 (codes "L" ∷ name ∷ directory ∷ []) in
    omega arith
line_size (File version row size) shape =
    let is = file_shape version row size shape in
    let one = directory_size row.key.directory is.directory in
    let two = file_size row.key.directory (full_of row) is.file in
    let three = mark_size row.file.deleted in
    let four = stamp_size version (stamp_of row) is.stamp in
    let five = number_size size is.size_short in
    let joined =
    joined_size 32 (codes "F" ∷ row.key.directory ∷ file_text (full_of row) ∷ mark_text row.file.deleted
    ∷ stamp_text version (stamp_of row) ∷ decimal size ∷ []) in
    omega arith
line_size (Request entry) shape =
    let is = request_shape entry shape in
    let one = directory_size entry.file.key.directory is.directory in
    let two = file_size entry.file.key.directory entry.file is.file in
    let three = number_size entry.copies is.copies in
    let four = form_size entry.form in
    let five = after_size entry.after is.after in
    let six = name_size entry.job is.job in
    let seven = note_size entry.note is.note in
    let joined =
    joined_size 32 (codes "Q" ∷ entry.file.key.directory ∷ file_text entry.file ∷ decimal entry.copies
    ∷ form_text entry.form ∷ after_text entry.after ∷ entry.job ∷ entry.note ∷ []) in
    omega arith
line_size End shape = omega arith

content_size : (entry : Entry) (bytes : List ℕ) → length (content_text entry bytes) ≤ length bytes + 1
content_size (File version row size) bytes = omega (arith, length-append bytes (10 ∷ []))
content_size (Head version) bytes = omega arith
content_size (Directory name retention) bytes = omega arith
content_size (Connected name) bytes = omega arith
content_size (Logical name directory) bytes = omega arith
content_size (Request entry) bytes = omega arith
content_size End bytes = omega arith

-- the room for some records
abbrev room : List (Entry × List ℕ) → ℕ
room [] = 0
room (first ∷ records) = 400 + length first.1 + room records

room_append : (records more : List (Entry × List ℕ)) → room (records ++ more) ≡ room records + room more
room_append [] more = omega arith
room_append (first ∷ records) more = let rest = room_append records more in omega arith

leads_size : (from to : Reading) (records : List (Entry × List ℕ)) → Leads from records to
    → length (flat_map record_text records) ≤ room records
leads_size from to [] leads = omega arith
leads_size from to ((entry, bytes) ∷ records) leads =
    let line = line_size entry leads.0.shape in
    let content = content_size entry bytes in
    let one = record_size (line_text entry) (content_text entry bytes) (length bytes) line content in
    let more = leads_size (with_record from (entry, bytes)) to records leads.1 in
    omega (arith, length-append (record_text (entry, bytes)) (flat_map record_text records))

-- records with no bytes after their lines
plain_room : {X : Type 0} (record_of : X → Entry × List ℕ) → ((x : X) → (record_of x).1 ≡ []) → (xs : List X)
    → room (map record_of xs) ≡ 400 * length xs
plain_room record_of plain [] = refl
plain_room record_of plain (x ∷ xs) =
    let rest = plain_room record_of plain xs in omega (arith, ap length (plain x))

rows_room : (version : Version) (rows : List Row)
    → room (map (file_record version) rows) ≡ 400 * length rows + total rows
rows_room version [] = refl
rows_room version (row ∷ rows) =
    let rest = rows_room version rows in omega (arith, sum_by-cons (λ (each : Row). length each.file.bytes) row rows)

-- the records of a state, by the lists that they come from
abbrev front : Version → State → List (Entry × List ℕ)
front version state = (Head version, []) ∷ map directory_record state.directories

abbrev named : State → List (Entry × List ℕ)
named state = (Connected state.connected, []) ∷ map logical_record state.logical

front_room : (version : Version) (state : State)
    → room (front version state) ≡ 400 + 400 * length state.directories
front_room version state = let rest = plain_room directory_record (λ x. refl) state.directories in omega arith

named_room : (state : State) → room (named state) ≡ 400 + 400 * length state.logical
named_room state = let rest = plain_room logical_record (λ x. refl) state.logical in omega arith

abbrev body : Version → State → List (Entry × List ℕ)
body version state =
    front version state ++ named state ++ map (file_record version) state.rows ++ map request_record state.queue

abbrev most : State → ℕ
most state =
    800 + 400 * length state.directories + 400 * length state.logical + (400 * length state.rows + total state.rows)
    + 400 * length state.queue

body_room : (version : Version) (state : State) → room (body version state) ≡ most state
body_room version state =
    let one = front_room version state in
    let two = named_room state in
    let three = rows_room version state.rows in
    let four = plain_room request_record (λ x. refl) state.queue in
    omega (
      arith,
      room_append (front version state ++ named state ++ map (file_record version) state.rows)
          (map request_record state.queue),
      room_append (front version state ++ named state) (map (file_record version) state.rows),
      room_append (front version state) (named state),
    )

written_room : (version : Version) (last : Tag) (state : State) → room (written version last state) ≤ most state + 400
written_room version tags.Start state = omega arith
written_room version tags.Head state = let all = front_room version state in omega arith
written_room version tags.Directory state = let all = front_room version state in omega arith
written_room version tags.Connected state = let all = body_room version state in omega arith
written_room version tags.Logical state = let all = body_room version state in omega arith
written_room version tags.File state = let all = body_room version state in omega arith
written_room version tags.Request state = let all = body_room version state in omega arith
written_room version tags.End state =
    let all = body_room version state in omega (arith, room_append (body version state) ((End, []) ∷ []))

-- the limits of a store
most_small : (state : State) → IsDraft state → most state + 400 < 16777216
most_small state draft =
    let directories = draft.few_directories in
    let logical = draft.few_logical in
    let rows = draft.rows.few in
    let bytes = draft.rows.small in
    let queue = draft.few_entries in
    omega arith

-- so many bytes are read at most
pub read_size : (bytes : List ℕ) (reading : Reading) (rest : List ℕ) → Makes bytes reading rest
    → length bytes < length rest + 16777216
unfolding Makes
read_size bytes reading rest made =
    let small = most_small reading.state (makes_sound bytes reading rest made).draft in
    let all = written_room reading.version reading.last reading.state in
    let same = ap room (leads_written start reading made.0 start_sound made.1) in
    let size = leads_size start reading made.0 made.1 in
    omega (arith, ap length made.2, length-append (flat_map record_text made.0) rest)

-- an image has fewer than 16,777,216 bytes
pub image_size : (bytes : List ℕ) (state : State) → IsImage bytes state → length bytes < 16777216
unfolding IsImage IsImageIn
image_size bytes state image = read_size bytes (whole image.0 image.1) [] image.2
