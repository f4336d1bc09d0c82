-- The entries of the maps that hold directories and logical names.
use Rattle.std.specs.Prelude.{ℕ, ◌≡◌, ◌≤◌, Bool, true, ◌&&◌, nat_le, List, length, map, find, Option, option_map}
use Rattle.std.specs.List.{list_all}
use Rattle.cm_text.specs.Case.{equals}
use Rattle.cm_text.specs.declared.name.TheConstants.{NAME_LIMIT}
use Rattle.cm_files.specs.Catalogue.{is_upper_name}
use Rattle.ex_store.specs.declared.directory.Definition.{Definition}
use Rattle.ex_store.specs.declared.directory.Directory.{Directory}

-- under the name of a directory, how many generations it keeps
abbrev pub directory_entry : List ℕ × ℕ → Directory
directory_entry entry = record { name = entry.0; retention = entry.1 }

abbrev pub directories_of : List (List ℕ × ℕ) → List Directory
directories_of entries = map directory_entry entries

-- a directory's name has at most 39 bytes
abbrev pub is_short : Directory → Bool
is_short directory = nat_le (length directory.name) NAME_LIMIT

-- directories of such names; and room is promised to so many more, in a map that has room for these
pub record AreShort (directories : List Directory) (promised spare : ℕ) : Type 0 where
  pub short : list_all is_short directories ≡ true
  pub within : promised ≤ spare

-- under a logical name, the name of the directory that it stands for
abbrev pub definition_entry : List ℕ × List ℕ → Definition
definition_entry entry = record { name = entry.0; directory = entry.1 }

abbrev pub definitions_of : List (List ℕ × List ℕ) → List Definition
definitions_of entries = map definition_entry entries

-- the name of the directory that a logical name stands for; letters have no case
abbrev pub directory_for : List ℕ → List Definition → Option (List ℕ)
directory_for name logical = option_map (λ entry. entry.directory) (find (λ entry. equals entry.name name) logical)

-- a name as a logical name is kept: at most 39 bytes, in upper case
abbrev pub is_kept_name : List ℕ → Bool
is_kept_name name = nat_le (length name) NAME_LIMIT && is_upper_name name

abbrev pub is_kept : Definition → Bool
is_kept entry = is_kept_name entry.name

-- logical names as they are kept; and room is promised to so many more, in a map that has room for these
pub record AreKept (logical : List Definition) (promised spare : ℕ) : Type 0 where
  pub kept : list_all is_kept logical ≡ true
  pub within : promised ≤ spare
