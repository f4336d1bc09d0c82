-- A catalogue of many files, for tests: one directory, with generations of one file of which all but one are
-- marked deleted.
use Rattle.std.specs.Prelude.{ℕ, zero, suc, ◌==◌, not, List, [], ◌∷◌, codes}
use Rattle.cm_files.specs.declared.row.FileRow.{FileRow}
use Rattle.cm_files.specs.Catalogue.{Catalogue}

-- one generation of it
abbrev pub many_row : ℕ → ℕ → FileRow
many_row unmarked generation =
    record {
      directory = 0;
      name = codes "A";
      kind = codes "TXT";
      generation = generation;
      deleted = not (generation == unmarked);
    }

-- so many generations from one on
abbrev pub many_from : ℕ → ℕ → ℕ → List FileRow
many_from unmarked generation zero = []
many_from unmarked generation (suc count) = many_row unmarked generation ∷ many_from unmarked (suc generation) count

abbrev pub many_catalogue : ℕ → ℕ → Catalogue
many_catalogue unmarked count =
    record {
      directories = codes "OPERATOR" ∷ [];
      connected = 0;
      logical = [];
      rows = many_from unmarked 1 count;
    }
