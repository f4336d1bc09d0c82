-- DIRECTORY: files are listed.
use Rattle.std.specs.Prelude.{Bool, false, ℕ, ℤ, List, [], ◌∷◌, ◌++◌, filter, length, if◌then◌else◌, Option, None, option_and_then, unwrap_or}
use Rattle.std.specs.List.{flat_map}
use Rattle.cm_fields.specs.declared.code.Code.TheVariants.{NoMatch}
use Rattle.cm_fields.specs.declared.value.Gen.TheVariants.{Missing}
use Rattle.cm_files.specs.Catalogue.{Catalogue}
use Rattle.cm_blocks.specs.declared.function.Role.TheVariants as roles
use Rattle.cm_blocks.specs.FieldView.{FieldView}
use Rattle.cm_state.specs.Roles.{field_of}
use Rattle.ex_grammar.specs.Words.{wild_all}
use Rattle.ex_store.specs.declared.place.Place.{Place}
use Rattle.ex_store.specs.declared.row.Row.{Row}
use Rattle.ex_store.specs.Plan.{sources}
use Rattle.ex_store.specs.State.{State}
use Rattle.ex_commands.specs.declared.command.Command.{Command}
use Rattle.ex_commands.specs.declared.command.Command.TheVariants as commands
use Rattle.ex_commands.specs.declared.lines.Days.{Days}
use Rattle.ex_commands.specs.Effect.{Act, does, pends, refuses}
use Rattle.ex_commands.specs.Line.{Line, day_by, directory_name, has_subs, place_in}
use Rattle.ex_commands.specs.Replies.{heading, is_within, listed_line, total_line}

-- all files of the connected directory
abbrev pub everything : Catalogue → Place
everything c = record {
  directory = directory_name c c.connected;
  name = None;
  kind = None;
  generation = Missing;
  flags = wild_all;
}

-- the files of a line, or all where none are said
abbrev pub directory_of : Line → Command
directory_of line =
    commands.Directory (unwrap_or (place_in line (field_of roles.Files line.fields)) (everything line.catalogue))
    None None false false (has_subs line)

-- the same files, of those that are marked deleted or of those that are not
abbrev pub marked_so : Bool → Place → Place
marked_so deleted files = record files { flags = record files.flags { deleted = deleted } }

-- the files to list: those that are meant, of these days
abbrev pub listed : Bool → Days → Place → State → List Row
listed deleted days files state = filter (is_within days) (sources (marked_so deleted files) state)

-- the files of a directory, line by line, with the day of reading or of writing
unfoldable pub listing : Bool → List ℕ → List Row → List ℕ
listing read directory rows = heading directory ++ flat_map (listed_line read) rows ++ total_line (length rows)

-- files are listed; where there are none it is refused
abbrev pub lists_rows : Bool → List ℕ → List Row → State → Act
lists_rows read directory [] state = refuses NoMatch state
lists_rows read directory (row ∷ rows) state = does (listing read directory (row ∷ rows)) state

-- it waits for its subcommands where they follow
abbrev pub lists : Place → Option ℤ → Option ℤ → Bool → Bool → Bool → State → Act
lists files since before deleted read sub state =
    if sub then pends state
    else lists_rows read files.directory (listed deleted (record { since = since; before = before }) files state) state

-- a day with what the value of a subcommand says, where it is the one that sets the day; of several the last counts
abbrev pub day_with : Bool → Option FieldView → Option ℤ → Option ℤ
day_with here said day = if here then option_and_then (λ field. day_by field.value) said else day
