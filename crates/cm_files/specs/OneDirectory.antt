-- The catalogue of one directory, which is connected, with no logical name.
use Rattle.std.specs.Prelude.{ℕ, List, [], ◌∷◌, codes, Option, None}
use Rattle.std.specs.Option.{option_to_list}
use Rattle.cm_files.specs.declared.row.FileRow.{FileRow}
use Rattle.cm_files.specs.Catalogue.{Catalogue}

-- the directory of this name, with this file, or none
abbrev pub directory_with : List ℕ → Option FileRow → Catalogue
directory_with name file = record {
  directories = name ∷ [];
  connected = 0;
  logical = [];
  rows = option_to_list file;
}

-- with no file
unfoldable pub one_directory : List ℕ → Catalogue
one_directory name = directory_with name None

-- the catalogue of a program whose lines name no files
unfoldable pub no_files : Catalogue
no_files = one_directory (codes "NONE")
