-- What commands show, line by line.
use Rattle.std.specs.Prelude.{ℕ, ◌/◌, ◌==◌, ℤ, pos, int_le, int_lt, ◌&&◌, Bool, true, if◌then◌else◌, List, [], ◌++◌, length, Option, None, Some}
use Rattle.std.specs.Fmt.{decimal}
use Rattle.std.specs.List.{last_or}
use Rattle.std.specs.Option.{option_map_or}
use Rattle.cm_text.specs.ScreenBytes.{end_of_line}
use Rattle.cm_dates.specs.DayText.{day_text}
use Rattle.ex_generations.specs.declared.file.File.{File}
use Rattle.ex_generations.specs.Generations.{page_count}
use Rattle.ex_store.specs.declared.key.FullName.{FullName}
use Rattle.ex_store.specs.declared.key.NamePair.{NamePair}
use Rattle.ex_store.specs.declared.row.Row.{Row}
use Rattle.ex_store.specs.Rows.{full_of}
use Rattle.ex_commands.specs.declared.lines.Days.{Days}
use Rattle.ex_commands.specs.declared.lines.Lines.{Lines}
use Rattle.ex_commands.specs.declared.lines.TheConstants.{DAY_SECONDS}
use Rattle.ex_commands.specs.declared.lines.Lines.TheVariants.{Changed, Listed, Held}
use Rattle.ex_commands.specs.declared.pairs.Origin.{Origin}
use Rattle.ex_commands.specs.declared.pairs.Origin.TheVariants.{Files, Queue, Terminal}
use Rattle.ex_commands.specs.Texts.{arrow, dot, done_mark, files_counted, from_terminal, left_angle, never, queued, right_angle, space, structure, total_of}

-- NAME.TYPE.GENERATION
unfoldable pub file_text : FullName → List ℕ
file_text full = full.key.name ++ dot ++ full.key.kind ++ dot ++ decimal full.generation

-- <DIRECTORY>
unfoldable pub directory_text : List ℕ → List ℕ
directory_text directory = left_angle ++ directory ++ right_angle

-- the full name, <DIRECTORY>NAME.TYPE.GENERATION
unfoldable pub full_text : FullName → List ℕ
full_text full = directory_text full.key.directory ++ file_text full

-- what is after what is done, ` [OK]`
unfoldable pub done_text : List ℕ
done_text = done_mark ++ end_of_line

-- from a file to another, ` SOURCE => TARGET [OK]`, or from the terminal to a file, ` TTY: => TARGET [OK]`
unfoldable pub pair_line : NamePair → List ℕ
pair_line pair = space ++ full_text pair.source ++ arrow ++ full_text pair.target ++ done_text

unfoldable pub typed_line : NamePair → List ℕ
typed_line pair = from_terminal ++ full_text pair.target ++ done_text

-- a file that is queued, ` Queued FILE`
unfoldable pub queued_line : NamePair → List ℕ
queued_line pair = queued ++ full_text pair.source ++ end_of_line

-- by where it comes from, or what becomes of it
abbrev pub origin_line : Origin → NamePair → List ℕ
origin_line Files pair = pair_line pair
origin_line Terminal pair = typed_line pair
origin_line Queue pair = queued_line pair

-- a file of which something is changed, ` FILE [OK]`
unfoldable pub changed_line : Row → List ℕ
changed_line row = space ++ full_text (full_of row) ++ done_text

-- the day of a moment
abbrev pub day_number : ℕ → ℤ
day_number moment = pos (moment / DAY_SECONDS)

abbrev pub day_of : ℕ → List ℕ
day_of moment = day_text (day_number moment)

-- the day when a file was last read, or `Never`
abbrev pub read_day : Option ℕ → List ℕ
read_day None = never
read_day (Some moment) = day_of moment

-- the day when it was last read, or else when it was written
abbrev pub shown_day : Bool → File → List ℕ
shown_day read file = if read then read_day file.read else day_of file.moment

-- how many pages and bytes a file has, and the day that is shown of it
unfoldable pub measures_text : Bool → File → List ℕ
measures_text read file =
    decimal (page_count (length file.bytes)) ++ space ++ decimal (length file.bytes) ++ space ++ shown_day read file

-- a file in a listing, ` NAME.TYPE.GENERATION PAGES BYTES DAY`
unfoldable pub listed_line : Bool → Row → List ℕ
listed_line read row = space ++ file_text (full_of row) ++ space ++ measures_text read row.file ++ end_of_line

-- a text ends with a line feed, or is empty
abbrev pub ends_line : List ℕ → Bool
ends_line bytes = option_map_or (λ byte. byte == 10) (last_or None bytes) true

-- what a file holds, and the end of its last line where that is begun
unfoldable pub held_text : Row → List ℕ
held_text row = row.file.bytes ++ (if ends_line row.file.bytes then [] else end_of_line)

-- it was written on these days: on the one or later, and earlier than on the other
abbrev pub is_within : Days → Row → Bool
is_within days row =
    option_map_or (λ day. int_le day (day_number row.file.moment)) days.since true
    && option_map_or (λ day. int_lt (day_number row.file.moment) day) days.before true

-- what is put for a file, by what it tells
abbrev pub line_of : Lines → Row → List ℕ
line_of Changed row = changed_line row
line_of (Listed days read) row = if is_within days row then listed_line read row else []
line_of Held row = held_text row

-- the head of a listing, `   PS:<DIRECTORY>`, and how many files are in it, ` Total of COUNT files`
unfoldable pub heading : List ℕ → List ℕ
heading directory = structure ++ directory_text directory ++ end_of_line

unfoldable pub total_line : ℕ → List ℕ
total_line count = total_of ++ decimal count ++ files_counted ++ end_of_line
