-- The fields of an image, as they are read: each gives its value, or the kind of its fault.
use Rattle.std.specs.Prelude.{ℕ, ℤ, pos, ◌==◌, ◌+◌, Bool, true, false, not, ◌&&◌, ◌||◌, nat_lt, nat_le, if◌then◌else◌, List, length, take, drop, get_or, codes, Option, Some, None, Result, Ok, Err}
use Rattle.std.specs.Char.{is_ascii_digit}
use Rattle.std.specs.List.{after_first, before_first, list_all, list_any}
use Rattle.std.specs.Option.{option_map}
use Rattle.std.specs.Str.{bytes_eq}
use Rattle.std.specs.Str.Parse.{digits_value}
use Rattle.cm_text.specs.declared.name.TheConstants.{NAME_LIMIT}
use Rattle.cm_text.specs.Bytes.{is_text}
use Rattle.cm_files.specs.Catalogue.{is_directory_name, is_upper_name}
use Rattle.cm_files.specs.LogicalName.{is_logical_name}
use Rattle.ex_store.specs.declared.key.FullName.{FullName}
use Rattle.ex_store.specs.Forms.{form_text}
use Rattle.ex_store.specs.WellFormed.{is_file_name, is_file_type}
use Rattle.cm_io.specs.declared.status.Kind.{Kind}
use Rattle.cm_io.specs.declared.status.Kind.TheVariants.{Cut, Form}

infixl 10 ◌>>=◌
-- what comes of a value that was read; a fault stays
abbrev pub ◌>>=◌ : {A B : Type 0} → Result A Kind → (A → Result B Kind) → Result B Kind
Ok value >>= next = next value
Err kind >>= next = Err kind

-- a value that passes a test
abbrev pub formed : {A : Type 0} → (A → Bool) → A → Result A Kind
formed test value = if test value then Ok value else Err Form

-- what is before the first such byte, and what follows it
unfoldable pub cut : ℕ → Kind → List ℕ → Result (List ℕ × List ℕ) Kind
cut byte kind bytes =
    if list_any (λ b. b == byte) bytes then Ok (before_first (λ b. b == byte) bytes, after_first (λ b. b == byte) bytes)
    else Err kind

-- a part up to such a byte, as it is read, and what follows
abbrev pub part_at : {A : Type 0} → ℕ → Kind → (List ℕ → Result A Kind) → List ℕ → Result (A × List ℕ) Kind
part_at byte kind read bytes = do
  part ← cut byte kind bytes
  value ← read part.0
  Ok (value, part.1)

-- a field of a line, with the space after it
abbrev pub field_at : {A : Type 0} → (List ℕ → Result A Kind) → List ℕ → Result (A × List ℕ) Kind
field_at read bytes = part_at 32 Form read bytes

-- one to ten digits with no zero before them
abbrev pub is_numeral : List ℕ → Bool
is_numeral digits =
    nat_lt 0 (length digits) && nat_le (length digits) 10 && list_all is_ascii_digit digits
    && (length digits == 1 || not (get_or digits 0 0 == 48))

unfoldable pub number_of : List ℕ → Result ℕ Kind
number_of digits = if is_numeral digits then Ok (digits_value 10 digits) else Err Form

-- the texts that names and notes may be
abbrev pub is_logical : List ℕ → Bool
is_logical name = is_logical_name name && is_upper_name name

abbrev pub is_note : List ℕ → Bool
is_note note = nat_le (length note) NAME_LIMIT && list_all is_text note

abbrev pub directory_of : List ℕ → Result (List ℕ) Kind
directory_of bytes = formed is_directory_name bytes

abbrev pub logical_of : List ℕ → Result (List ℕ) Kind
logical_of bytes = formed is_logical bytes

abbrev pub job_of : List ℕ → Result (List ℕ) Kind
job_of bytes = formed is_file_name bytes

abbrev pub note_of : List ℕ → Result (List ℕ) Kind
note_of bytes = formed is_note bytes

-- name, type and generation of a file in a directory, with points between
unfoldable pub file_of : List ℕ → List ℕ → Result FullName Kind
file_of directory bytes = do
  name ← part_at 46 Form (formed is_file_name) bytes
  kind ← part_at 46 Form (formed is_file_type) name.1
  generation ← number_of kind.1
  Ok (record { key = record { directory = directory; name = name.0; kind = kind.0 }; generation = generation })

-- whether a file is marked as deleted
unfoldable pub mark_of : List ℕ → Result Bool Kind
mark_of bytes =
    if bytes_eq bytes (codes "U") then Ok false
    else (if bytes_eq bytes (codes "D") then Ok true else Err Form)

-- the number of a form
unfoldable pub form_of : List ℕ → Result ℕ Kind
form_of bytes =
    if bytes_eq bytes (form_text 0) then Ok 0
    else (if bytes_eq bytes (form_text 1) then Ok 1
    else (if bytes_eq bytes (form_text 2) then Ok 2 else Err Form))

-- a number, or a hyphen for none
unfoldable pub optional_of : List ℕ → Result (Option ℕ) Kind
optional_of bytes =
    if bytes_eq bytes (codes "-") then Ok None else (number_of bytes >>= λ number. Ok (Some number))

-- the number of a day, or a hyphen for none
unfoldable pub after_of : List ℕ → Result (Option ℤ) Kind
after_of bytes = optional_of bytes >>= λ day. Ok (option_map pos day)

-- so many bytes of a file, with the line feed after them, and what follows it
unfoldable pub content_at : ℕ → List ℕ → Result (List ℕ × List ℕ) Kind
content_at size bytes =
    if nat_le (length bytes) size then Err Cut
    else (if get_or bytes size 0 == 10 then Ok (take size bytes, drop (size + 1) bytes) else Err Form)
