-- A directory is made, or keeps another number of generations.
use Rattle.std.specs.Prelude.{ℕ, nat_le, if◌then◌else◌, List, length, map, find, Option, unwrap_or, option_map, Result, Ok, Err}
use Rattle.std.specs.Ordering.{on}
use Rattle.std.specs.declared.cmp.Ordering.{Ordering}
use Rattle.cm_lists.specs.Ascent.{insertion}
use Rattle.cm_fields.specs.declared.code.Code.{Code}
use Rattle.cm_fields.specs.declared.code.Code.TheVariants.{DirLimit}
use Rattle.cm_files.specs.Catalogue.{by_bytes}
use Rattle.ex_store.specs.declared.directory.Directory.{Directory}
use Rattle.ex_store.specs.declared.limits.TheConstants.{DIRECTORY_LIMIT}
use Rattle.ex_store.specs.State.{has_directory, is_named}

-- directories by their names
abbrev pub by_directory : Directory → Directory → Ordering
by_directory = on (λ directory. directory.name) by_bytes

-- the directory of its name keeps as many generations; or it is at its place, where there is none of its name
abbrev pub with_directory : Directory → List Directory → List Directory
with_directory new directories =
    if has_directory new.name directories
    then map (λ other.
    if is_named new.name other then record other { retention = new.retention } else other) directories
    else insertion by_directory new directories

-- how many generations it keeps: as is asked, or as before, and a new one keeps 1
abbrev pub new_retention : List ℕ → Option ℕ → List Directory → ℕ
new_retention name retention directories =
    unwrap_or retention
    (unwrap_or (option_map (λ directory. directory.retention) (find (is_named name) directories)) 1)

-- the directory that is made, or the limit that is passed
abbrev pub built : List ℕ → Option ℕ → List Directory → Result Directory Code
built name retention directories =
    if has_directory name directories
    then Ok (record { name = name; retention = new_retention name retention directories })
    else (if nat_le DIRECTORY_LIMIT (length directories) then Err DirLimit
    else Ok (record { name = name; retention = new_retention name retention directories }))
