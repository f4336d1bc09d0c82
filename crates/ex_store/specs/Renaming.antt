-- Files are given other names.
use Rattle.std.specs.Prelude.{◌≡◌, true, not, List, [], ◌∷◌, length, Result, Ok}
use Rattle.std.specs.List.{list_all}
use Rattle.cm_fields.specs.declared.code.Code.{Code}
use Rattle.cm_fields.specs.declared.value.Gen.{Gen}
use Rattle.ex_store.specs.declared.key.FullName.{FullName}
use Rattle.ex_store.specs.declared.key.Key.{Key}
use Rattle.ex_store.specs.declared.key.NamePair.{NamePair}
use Rattle.ex_store.specs.declared.place.Place.{Place}
use Rattle.ex_store.specs.declared.row.Row.{Row}
use Rattle.ex_store.specs.Adding.{Outcome, admitted, and_then, each_in_turn, numbered, placed}
use Rattle.ex_store.specs.Copying.{key_from}
use Rattle.ex_store.specs.Rows.{files_of, full_of, is_full, with_name, without}

-- a source is taken out, and added under the target's name with all else that it has
abbrev pub renamed : Place → Row → Outcome → Result Outcome Code
renamed to source outcome =
    let key = key_from to source.key in
    let left : Outcome = record outcome { rows = without (full_of source) outcome.rows } in
    and_then (λ generation.
    Ok (placed (full_of source) left (with_name (record { key = key; generation = generation }) source.file)))
    (admitted key to.generation (length source.file.bytes) left.rows)

-- the sources are given other names, one after the other
abbrev pub all_renamed : Place → List Row → List Row → Result Outcome Code
all_renamed to sources rows =
    each_in_turn (renamed to) sources (record { rows = rows; pairs = [] })

-- the names that a file had among these rows and has then under another key, or the refusal of its generation
abbrev pub pair_to : FullName → Key → Gen → List Row → Result NamePair Code
pair_to full key generation rows =
    and_then (λ number. Ok (record { source = full; target = record { key = key; generation = number } }))
    (numbered generation (files_of key (without full rows)))

-- the same of a source and the target's name
abbrev pub pair_for : Place → Row → List Row → Result NamePair Code
pair_for to source rows = pair_to (full_of source) (key_from to source.key) to.generation rows

-- no two of some rows have one full name
abbrev pub AreDistinct : List Row → Type 0
AreDistinct [] = Unit
AreDistinct (row ∷ more) = (list_all (λ other. not (is_full (full_of row) other)) more ≡ true) × AreDistinct more
