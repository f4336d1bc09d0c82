-- Rows of one name and type stand side by side, by generation.
use Rattle.std.specs.Prelude.{Bool, if◌then◌else◌, List, Option, Some, None}
use Rattle.cm_files.specs.declared.row.FileRow.{FileRow}
use Rattle.cm_files.specs.Selection.{Wanted, agree, is_highest, is_lowest, is_same_file, seen_with, takes}

-- whether a row of the name and type of another has this mark; none where it is of another file
abbrev pub mark_of_same : FileRow → Bool → FileRow → Option Bool
mark_of_same row deleted other = if is_same_file other row then Some (agree other.deleted deleted) else None

-- a row has the highest generation, or the lowest, of those seen of its name and type
abbrev pub is_top : Wanted → List FileRow → FileRow → Bool
is_top w rows row = is_highest (seen_with w rows row) row.generation

abbrev pub is_bottom : Wanted → List FileRow → FileRow → Bool
is_bottom w rows row = is_lowest (seen_with w rows row) row.generation

-- the generation of a row is one of those meant, among the rows seen of its name and type
abbrev pub is_taken : Wanted → List FileRow → FileRow → Bool
is_taken w rows row = takes w.generation w.all_generations (seen_with w rows row) row.generation
