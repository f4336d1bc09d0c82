-- The mailbox of a directory, and what is done with its messages.
use Rattle.std.specs.Prelude.{ℕ, ◌==◌, ◌&&◌, max, not, Bool, true, if◌then◌else◌, List, [], ◌∷◌, ◌++◌, codes, filter, map, take, Some}
use Rattle.std.specs.List.{flat_map, take_while}
use Rattle.std.specs.Str.{bytes_eq}
use Rattle.cm_text.specs.ScreenBytes.{end_of_line, printing_byte}
use Rattle.cm_fields.specs.declared.code.Code.TheVariants.{NoMessage}
use Rattle.cm_fields.specs.declared.value.Gen.{Gen}
use Rattle.cm_blocks.specs.Words.{no_flags}
use Rattle.ex_store.specs.declared.place.Place.{Place}
use Rattle.ex_store.specs.declared.row.Row.{Row}
use Rattle.ex_store.specs.Rows.{is_in, with_mark}
use Rattle.ex_store.specs.State.{State}
use Rattle.ex_commands.specs.Act.{Act, does, refuses}
use Rattle.ex_commands.specs.Replies.{day_of, held_text}
use Rattle.ex_commands.specs.Texts.{space}
use Rattle.mm_mail.specs.MessageName.{digits_of, four_digits, is_message_name, message_name, name_number}
use Rattle.mm_mail.specs.declared.mailbox.TheConstants.{FIRST_GENERATION, HEADER_BYTES}

-- the type of the files of messages
unfoldable pub mail_type : List ℕ
mail_type = codes "MAIL"

-- a file of a directory that is one of a message, marked or not and of any generation
abbrev pub is_numbered_in : List ℕ → Row → Bool
is_numbered_in directory row =
    is_in directory row && is_message_name row.key.name && bytes_eq row.key.kind mail_type

-- a message: of the generation 1, and not marked as deleted
abbrev pub is_message_in : List ℕ → Row → Bool
is_message_in directory row =
    is_numbered_in directory row && row.file.generation == FIRST_GENERATION && not row.file.deleted

-- the mailbox of a directory
abbrev pub mailbox : List ℕ → State → List Row
mailbox directory state = filter (is_message_in directory) state.rows

-- the messages that have a number: one or none
abbrev pub is_message_numbered : List ℕ → ℕ → Row → Bool
is_message_numbered directory number row = is_message_in directory row && name_number row.key.name == number

abbrev pub messages_numbered : List ℕ → ℕ → State → List Row
messages_numbered directory number state = filter (is_message_numbered directory number) state.rows

-- the greatest number of the files of messages of a directory, and 0 with none
abbrev pub number_if : Row → ℕ
number_if row = if is_message_name row.key.name then name_number row.key.name else 0

abbrev pub greatest_among : List Row → ℕ
greatest_among [] = 0
greatest_among (row ∷ rows) = max (number_if row) (greatest_among rows)

abbrev pub greatest : List ℕ → State → ℕ
greatest directory state = greatest_among (filter (is_numbered_in directory) state.rows)

-- the first line of a message, up to CR or LF, at most 90 bytes of it
abbrev pub is_rest : ℕ → Bool
is_rest byte = not (byte == 13) && not (byte == 10)

abbrev pub first_line : List ℕ → List ℕ
first_line bytes = take HEADER_BYTES (take_while is_rest bytes)

-- a message in the list of messages: ` NNNN DATE FIRST`
unfoldable pub header_line : Row → List ℕ
header_line row =
    space ++ digits_of row.key.name ++ space ++ day_of row.file.moment ++ space
    ++ map printing_byte (first_line row.file.bytes) ++ end_of_line

-- HEADERS: the messages of the connected directory are listed
abbrev pub headers : State → Act
headers state = does (flat_map header_line (mailbox state.connected state)) state

-- READ: a message is shown as TYPE shows it, and is not read by that
abbrev pub reads_first : List Row → State → Act
reads_first [] state = refuses NoMessage state
reads_first (row ∷ more) state = does (held_text row) state

unfoldable pub reads : ℕ → State → Act
reads number state = reads_first (messages_numbered state.connected number state) state

-- DELETE: a message is marked as deleted, ` Deleted NNNN`
unfoldable pub deleted : List ℕ
deleted = codes " Deleted "

unfoldable pub deleted_line : ℕ → List ℕ
deleted_line number = deleted ++ four_digits number ++ end_of_line

abbrev pub with_deleted : ℕ → State → State
with_deleted number state =
    record state {
      rows = map (λ (row : Row).
          if is_message_numbered state.connected number row then with_mark true row else row) state.rows;
    }

abbrev pub deletes_first : ℕ → List Row → State → Act
deletes_first number [] state = refuses NoMessage state
deletes_first number (row ∷ more) state = does (deleted_line number) (with_deleted number state)

unfoldable pub deletes : ℕ → State → Act
deletes number state = deletes_first number (messages_numbered state.connected number state) state

-- where the files of messages stand, whatever their numbers, and where that of a number does (GTJFN)
abbrev pub place_in : List ℕ → List ℕ → Gen → Place
place_in directory name generation =
    record {
      directory = directory;
      name = Some name;
      kind = Some mail_type;
      generation = generation;
      flags = no_flags;
    }

unfoldable pub any_number : List ℕ
any_number = codes "MSG-%%%%"

abbrev pub numbered_place : List ℕ → Gen → Place
numbered_place directory generation = place_in directory any_number generation

abbrev pub message_place : List ℕ → ℕ → Gen → Place
message_place directory number generation = place_in directory (message_name number) generation

-- the line of a file, where its name is that of a message
abbrev pub header_if : Row → List ℕ
header_if row = if is_message_name row.key.name then header_line row else []
