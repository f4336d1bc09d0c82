-- Which files of a directory are selected (GTJFN).
use Rattle.std.specs.Prelude.{ℕ, ◌==◌, Bool, true, false, not, ◌&&◌, nat_lt, nat_le, if◌then◌else◌, List, length, filter, Option, Some, None, option_copied}
use Rattle.std.specs.List.{list_all}
use Rattle.std.specs.Str.{bytes_eq}
use Rattle.cm_fields.specs.declared.value.Gen.{Gen}
use Rattle.cm_fields.specs.declared.value.Gen.TheVariants.{Missing, Highest, Next, Lowest, All, Number}
use Rattle.cm_files.specs.declared.row.FileRow.{FileRow}
use Rattle.cm_files.specs.declared.selection.Sought.{Sought}
use Rattle.cm_files.specs.Pattern.{matches}

-- the patterns of name and type, where no name selects nothing; which generations of each file, and whether a
-- missing one means all of them; whether files that are marked deleted are meant, or those that are not
pub record Wanted : Type 0 where
  pub name : Option (List ℕ)
  pub kind : List ℕ
  pub generation : Gen
  pub all_generations : Bool
  pub deleted : Bool

-- the same with texts that are lent
abbrev pub wanted : Sought → Wanted
wanted sought =
    record {
      name = option_copied sought.name;
      kind = sought.kind.now;
      generation = sought.generation;
      all_generations = sought.all_generations;
      deleted = sought.deleted;
    }

-- a name is given, and matches
abbrev pub name_matches : Option (List ℕ) → List ℕ → Bool
name_matches None name = false
name_matches (Some pattern) name = matches pattern name

-- both or neither
abbrev pub agree : Bool → Bool → Bool
agree first second = if first then second else not second

-- a row whose name, type and mark are those that are looked for
unfoldable pub is_seen : Wanted → FileRow → Bool
is_seen w row = agree row.deleted w.deleted && name_matches w.name row.name && matches w.kind row.kind

-- two rows of one name and type
abbrev pub is_same_file : FileRow → FileRow → Bool
is_same_file row other = bytes_eq row.name other.name && bytes_eq row.kind other.kind

-- the rows seen that have the name and type of this one
abbrev pub seen_with : Wanted → List FileRow → FileRow → List FileRow
seen_with w rows row = filter (λ other. is_seen w other && is_same_file other row) rows

-- a generation that none of these rows passes, and one that none is below
abbrev pub is_highest : List FileRow → ℕ → Bool
is_highest seen generation = list_all (λ row. nat_le row.generation generation) seen

abbrev pub is_lowest : List FileRow → ℕ → Bool
is_lowest seen generation = list_all (λ row. nat_le generation row.generation) seen

-- a generation is one of those meant, among the rows seen of its name and type
abbrev pub takes : Gen → Bool → List FileRow → ℕ → Bool
takes Missing all_generations seen generation = if all_generations then true else is_highest seen generation
takes Highest all_generations seen generation = is_highest seen generation
takes Next all_generations seen generation = false
takes Lowest all_generations seen generation = is_lowest seen generation
takes All all_generations seen generation = true
takes (Number number) all_generations seen generation = generation == number

-- a row is seen, and its generation is meant
unfoldable pub is_selected : Wanted → List FileRow → FileRow → Bool
is_selected w rows row =
    is_seen w row && takes w.generation w.all_generations (seen_with w rows row) row.generation

-- the rows selected of these
abbrev pub selected : Wanted → List FileRow → List FileRow
selected w rows = filter (is_selected w rows) rows

-- some row is selected
abbrev pub selects : Wanted → List FileRow → Bool
selects w rows = nat_lt 0 (length (selected w rows))
