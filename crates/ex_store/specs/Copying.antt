-- Files are copied, or written anew.
use Rattle.std.specs.Prelude.{ℕ, min, Bool, true, false, ◌||◌, if◌then◌else◌, List, [], length, codes, Option, Some, None, unwrap_or, Result, Ok, Err}
use Rattle.std.specs.Str.{bytes_eq}
use Rattle.cm_fields.specs.declared.code.Code.{Code}
use Rattle.cm_fields.specs.declared.code.Code.TheVariants.{NameNeeded}
use Rattle.ex_store.specs.declared.key.Key.{Key}
use Rattle.ex_store.specs.declared.limits.TheConstants.{MOMENT_LIMIT}
use Rattle.ex_store.specs.declared.place.Place.{Place}
use Rattle.ex_store.specs.declared.row.Row.{Row}
use Rattle.ex_store.specs.Adding.{Outcome, admitted, and_then, each_in_turn, keep_at, new_row, placed}
use Rattle.ex_store.specs.Rows.{full_of}

-- the moment of a line, as a file may have it
abbrev pub moment_of : ℕ → ℕ
moment_of moment = min moment MOMENT_LIMIT

-- `*` stands for the part of the source
abbrev pub is_star : List ℕ → Bool
is_star part = bytes_eq part (codes "*")

-- a part of a target's name: that of the source where none is given, or `*`
abbrev pub part_from : Option (List ℕ) → List ℕ → List ℕ
part_from None own = own
part_from (Some part) own = if is_star part then own else part

-- directory, name and type that a target gives to a source
abbrev pub key_from : Place → Key → Key
key_from to source =
    record {
      directory = to.directory;
      name = part_from to.name source.name;
      kind = part_from to.kind source.kind;
    }

-- a source is added under the target's name, with its bytes, in a directory that keeps so many generations
abbrev pub copied : ℕ → ℕ → Place → Row → Outcome → Result Outcome Code
copied retention moment to source outcome =
    let key = key_from to source.key in
    and_then (λ generation.
    let keep = keep_at retention key outcome.rows in
    Ok (placed (full_of source) outcome (new_row key keep (moment_of moment) source.file.bytes generation)))
    (admitted key to.generation (length source.file.bytes) outcome.rows)

-- the sources are copied one after the other
abbrev pub all_copied : ℕ → ℕ → Place → List Row → List Row → Result Outcome Code
all_copied retention moment to sources rows =
    each_in_turn (copied retention moment to) sources (record { rows = rows; pairs = [] })

-- no name is given, or `*` stands for it
abbrev pub name_is_open : Option (List ℕ) → Bool
name_is_open None = true
name_is_open (Some name) = is_star name

-- `*` stands for the type
abbrev pub kind_is_open : Option (List ℕ) → Bool
kind_is_open None = false
kind_is_open (Some kind) = is_star kind

-- the name or the type is open
abbrev pub lacks_name : Place → Bool
lacks_name to = name_is_open to.name || kind_is_open to.kind

-- the name and type of a target that has a name; a type that is not given is the empty one
abbrev pub own_key : Place → Key
own_key to =
    record { directory = to.directory; name = unwrap_or to.name []; kind = unwrap_or to.kind [] }

-- bytes are added under the target's name: it is its own source
abbrev pub written : ℕ → ℕ → Place → List ℕ → List Row → Result Outcome Code
written retention moment to bytes rows =
    if lacks_name to then Err NameNeeded
    else and_then (λ generation.
    let row = new_row (own_key to) (keep_at retention (own_key to) rows) (moment_of moment) bytes generation in
    Ok (placed (full_of row) (record { rows = rows; pairs = [] }) row))
    (admitted (own_key to) to.generation (length bytes) rows)
