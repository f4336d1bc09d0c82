-- The bytes of files are put after those of one file.
use Rattle.std.specs.Prelude.{ℕ, ◌+◌, nat_lt, if◌then◌else◌, List, [], ◌∷◌, ◌++◌, length, map, Option, Some, None, Result, Ok, Err}
use Rattle.std.specs.Option.{option_map_or, option_to_list}
use Rattle.cm_fields.specs.declared.code.Code.{Code}
use Rattle.cm_fields.specs.declared.code.Code.TheVariants.{FileSize, NoFile, StoreSize}
use Rattle.cm_fields.specs.declared.value.Gen.{Gen}
use Rattle.cm_fields.specs.declared.value.Gen.TheVariants.{Missing, Highest, Next, Lowest, All, Number}
use Rattle.ex_generations.specs.declared.file.File.{File}
use Rattle.ex_generations.specs.declared.file.TheConstants.{FILE_LIMIT}
use Rattle.ex_generations.specs.Generations.{has, highest, lowest, unmarked}
use Rattle.ex_store.specs.declared.append.Opening.{Opening}
use Rattle.ex_store.specs.declared.key.FullName.{FullName}
use Rattle.ex_store.specs.declared.key.Key.{Key}
use Rattle.ex_store.specs.declared.key.NamePair.{NamePair}
use Rattle.ex_store.specs.declared.limits.TheConstants.{STORE_LIMIT}
use Rattle.ex_store.specs.declared.place.Place.{Place}
use Rattle.ex_store.specs.declared.ready.RowChange.{RowChange}
use Rattle.ex_store.specs.declared.ready.RowChange.TheVariants as changes
use Rattle.ex_store.specs.declared.row.Row.{Row}
use Rattle.ex_store.specs.Adding.{Outcome, admitted, and_then, keep_at, new_row}
use Rattle.ex_store.specs.Copying.{moment_of, own_key}
use Rattle.ex_store.specs.Rows.{added, files_of, filled, full_of, row_at, total}

-- the generation of these that is put after, or none, where a new one is added; a number that is marked is refused
abbrev pub found : Gen → List File → Result (Option ℕ) Code
found Missing files = Ok (highest (unmarked files))
found Highest files = Ok (highest (unmarked files))
found Next files = Ok None
found Lowest files = Ok (lowest (unmarked files))
found All files = Ok (highest (unmarked files))
found (Number number) files =
    if has number (unmarked files) then Ok (Some number)
    else (if has number files then Err NoFile else Ok None)

-- the file that is put after: its full name, and the empty row that is added where it is a new one
abbrev pub opening_of : ℕ → ℕ → Key → Option ℕ → Gen → List Row → Result Opening Code
opening_of retention moment key (Some number) generation rows =
    Ok (record { target = record { key = key; generation = number }; new = None })
opening_of retention moment key None generation rows =
    and_then (λ number.
    let row = new_row key (keep_at retention key rows) (moment_of moment) [] number in
    Ok (record { target = full_of row; new = Some row }))
    (admitted key generation 0 rows)

abbrev pub opened : ℕ → ℕ → Key → Gen → List Row → Result Opening Code
opened retention moment key generation rows =
    and_then (λ there. opening_of retention moment key there generation rows) (found generation (files_of key rows))

-- the rows with the file that is put after
abbrev pub with_opened : List Row → Option Row → List Row
with_opened rows None = rows
with_opened rows (Some row) = added row.file.keep row rows

-- what a file holds; nothing where it is not there
abbrev pub bytes_at : FullName → List Row → List ℕ
bytes_at full rows = option_map_or (λ row. row.file.bytes) (row_at full rows) []

-- so many bytes more, after so many of a file and beside so many in all: or the limit that is passed
abbrev pub fitting : ℕ → ℕ → ℕ → Result Unit Code
fitting all size more =
    if nat_lt FILE_LIMIT (size + more) then Err FileSize
    else (if nat_lt STORE_LIMIT (all + more) then Err StoreSize else Ok tt)

-- the bytes of each source in turn, after these
abbrev pub concatenation : ℕ → List ℕ → List Row → Result (List ℕ) Code
concatenation all bytes [] = Ok bytes
concatenation all bytes (source ∷ more) =
    and_then (λ _. concatenation (all + length source.file.bytes) (bytes ++ source.file.bytes) more)
    (fitting all (length bytes) (length source.file.bytes))

-- each source went to the target
abbrev pub pairs_to : FullName → List Row → List NamePair
pairs_to target sources = map (λ source. record { source = full_of source; target = target }) sources

-- the bytes of the sources, as they were, are put after the target, which gets the moment of the line
abbrev pub appended : ℕ → ℕ → Place → List Row → List Row → Result Outcome Code
appended retention moment to sources rows =
    and_then (λ there.
    and_then (λ bytes.
    Ok (record {
      rows = filled there.target (moment_of moment) bytes (with_opened rows there.new);
      pairs = pairs_to there.target sources;
    }))
    (concatenation (total rows) (bytes_at there.target rows) sources))
    (opened retention moment (own_key to) to.generation rows)

-- what is to be done for it: the empty row is added, and then the bytes are filled in
abbrev pub row_changes_of : Opening → ℕ → List ℕ → List RowChange
row_changes_of there moment bytes =
    map (λ row. changes.Add row) (option_to_list there.new) ++ (changes.Fill there.target moment bytes) ∷ []
