-- Files by family: each directory, name and type with its generations. A family without any is no file.
use Rattle.std.specs.Prelude.{ℕ, ◌≡◌, ◌<◌, ◌≤◌, ◌+◌, ◌||◌, Bool, true, List, [], ◌∷◌, find, length, map, sum_by}
use Rattle.std.specs.List.{flat_map}
use Rattle.std.specs.Option.{option_map_or}
use Rattle.std.specs.Ordering.{is_eq, on}
use Rattle.std.specs.declared.cmp.Ordering.{Ordering}
use Rattle.ex_generations.specs.declared.file.File.{File}
use Rattle.cm_lists.specs.Ascent.{ascends}
use Rattle.cm_files.specs.Catalogue.{by_bytes}
use Rattle.ex_store.specs.declared.family.Family.{Family}
use Rattle.ex_store.specs.declared.key.Key.{Key}
use Rattle.ex_store.specs.declared.limits.TheConstants.{ROW_LIMIT}
use Rattle.ex_store.specs.declared.row.Row.{Row}
use Rattle.ex_store.specs.Rows.{by_key}
use Rattle.ex_store.specs.State.{FamilyRoom}

-- a generation of this directory, name and type
abbrev pub row_under : Key → File → Row
row_under key file = record { key = key; file = file }

-- the files of a family, and of all families
abbrev pub rows_under : Family → List Row
rows_under family = map (row_under family.key) family.gens.files

abbrev pub rows_of : List Family → List Row
rows_of families = flat_map rows_under families

-- families by directory, name and type
abbrev pub by_family : Family → Family → Ordering
by_family = on (λ family. family.key) by_key

abbrev pub is_under : Key → Family → Bool
is_under key family = is_eq (by_key family.key key)

-- each family tells how many files the families up to it have, from so many before them on
abbrev pub IsCounted : ℕ → List Family → Type 0
IsCounted before [] = Unit {0}
IsCounted before (family ∷ families) = (family.end ≡ before + length family.gens.files) × IsCounted family.end families

-- the families of a store: each once, in ascending order, and counted, with no more files than a store may have
pub record AreFamilies (families : List Family) : Type 0 where
  pub ascend : ascends by_family families ≡ true
  pub counted : IsCounted 0 families
  pub few : length (rows_of families) ≤ ROW_LIMIT

-- the families, counted
abbrev pub counted : ℕ → List Family → List Family
counted before [] = []
counted before (family ∷ families) =
    let end = before + length family.gens.files in
    record family { end = end } ∷ counted end families

-- for how many files each family has room
abbrev pub rooms_of : List Family → List FamilyRoom
rooms_of families = map (λ family. record { key = family.key; room = family.gens.room }) families

-- for how many files there is room under a key, and none where its family is not there
abbrev pub room_at : Key → List FamilyRoom → ℕ
room_at key rooms = option_map_or (λ it. it.room) (find (λ it. is_eq (by_key it.key key)) rooms) 0

-- no file is to be put under any family
abbrev pub without_demand : List Family → List Family
without_demand families = map (λ (family : Family). record family { demand = 0 }) families

-- how many files are to be put under a key
abbrev pub demand_at : Key → List Family → ℕ
demand_at key families = option_map_or (λ family. family.demand) (find (is_under key) families) 0

-- there is room for the files that are to be put under each family
abbrev pub HasRoom : Family → Type 0
HasRoom family = 0 < family.demand → length family.gens.files + family.demand ≤ family.gens.room

abbrev pub EachHasRoom : List Family → Type 0
EachHasRoom [] = Unit {0}
EachHasRoom (family ∷ families) = HasRoom family × EachHasRoom families

-- the bytes of some files together
abbrev pub bytes_of : List File → ℕ
bytes_of files = sum_by (λ file. length file.bytes) files

-- a family of a directory
abbrev pub is_under_directory : List ℕ → Family → Bool
is_under_directory directory family = is_eq (by_bytes family.key.directory directory)

-- a family of either directory
abbrev pub is_under_either : List ℕ → List ℕ → Family → Bool
is_under_either first second family = is_under_directory first family || is_under_directory second family
