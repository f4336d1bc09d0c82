-- What comes of rows does not depend on who has read them.
-- What does not depend on who has read a file is said, in clause and invariant, of all alike rows (AreAlike): length
-- and bytes by map unread.
use Rattle.std.proofs.Common.{◌≡◌, ℕ, Bool, cond, true, false, List, [], ◌∷◌, length, map, Result, Ok, Err, Option, Some, None, refl, ap, arith, ◌∙◌, sym}
use Rattle.std.specs.Option.{option_map_or}
use Rattle.std.proofs.lemmas.List.{length-map}
use Rattle.cm_fields.specs.declared.code.Code.{Code}
use Rattle.cm_fields.specs.declared.value.Gen.{Gen}
use Rattle.ex_generations.specs.declared.file.Remark.TheVariants as remarks
use Rattle.ex_store.specs.declared.key.FullName.{FullName}
use Rattle.ex_store.specs.declared.key.Key.{Key}
use Rattle.ex_store.specs.declared.append.Opening.{Opening}
use Rattle.ex_store.specs.declared.ready.Reading.{Reading}
use Rattle.ex_store.specs.declared.row.Row.{Row}
use Rattle.ex_store.specs.Adding.{admitted, and_then, keep_at, limited, new_row, numbered}
use Rattle.ex_store.specs.Appending.{bytes_at, found, opened, opening_of}
use Rattle.ex_store.specs.Copying.{moment_of}
use Rattle.ex_store.specs.Ready.{Change, IsFor, rows_read}
use Rattle.ex_store.specs.Selection.{is_selected_by}
use Rattle.ex_store.specs.State.{State, StoreWithRoom}
use Rattle.ex_store.specs.Rows.{AreAlike, blank, files_of, full_of, is_full, is_in_either, row_at, rows_in_either, total, unread, with_remark}
use Rattle.ex_store.proofs.BlankLaws.{found_blank, keep_blank, numbered_blank, size_blank}
use Rattle.ex_store.proofs.RemarkLaws.{where_passing}
use Rattle.ex_store.proofs.TotalLaws.{total_cons}

-- rows that are read are the same rows
pub alike_read : (test : Row → Bool) (moment : ℕ) (rows : List Row) → AreAlike rows (map (where_passing test (with_remark (remarks.Read moment))) rows)
alike_read test moment [] = refl
alike_read test moment (row ∷ rows) = by (test row) (alike_read test moment rows)
  where
    by : (passes : Bool) → AreAlike rows (map (where_passing test (with_remark (remarks.Read moment))) rows)
        → map unread (row ∷ rows)
        ≡ unread (cond passes (with_remark (remarks.Read moment) row) row) ∷ map unread (map (where_passing test (with_remark (remarks.Read moment))) rows)
    by true rest = ap (λ more. unread row ∷ more) rest
    by false rest = ap (λ more. unread row ∷ more) rest

blank_unread : (rows : List Row) → map blank (map unread rows) ≡ map blank rows
blank_unread [] = refl
blank_unread (row ∷ rows) = ap (λ more. blank row ∷ more) (blank_unread rows)

pub blank_alike : (rows other : List Row) → AreAlike rows other → map blank rows ≡ map blank other
blank_alike rows other alike = sym (blank_unread rows) ∙ ap (map blank) alike ∙ blank_unread other

either_blank : (from to : List ℕ) (rows : List Row) → rows_in_either from to (map blank rows) ≡ map blank (rows_in_either from to rows)
either_blank from to [] = refl
either_blank from to (row ∷ rows) = by (is_in_either from to row) (either_blank from to rows)
  where
    by : (b : Bool) → rows_in_either from to (map blank rows) ≡ map blank (rows_in_either from to rows)
        → cond b (blank row ∷ rows_in_either from to (map blank rows)) (rows_in_either from to (map blank rows))
        ≡ map blank (cond b (row ∷ rows_in_either from to rows) (rows_in_either from to rows))
    by true rest = ap (λ more. blank row ∷ more) rest
    by false rest = rest

-- what is simulated
pub either_alike : (from to : List ℕ) (rows other : List Row) → AreAlike rows other
    → map blank (rows_in_either from to rows) ≡ map blank (rows_in_either from to other)
either_alike from to rows other alike =
    sym (either_blank from to rows) ∙ ap (rows_in_either from to) (blank_alike rows other alike) ∙ either_blank from to other

-- how many they are
pub length_alike : (rows other : List Row) → AreAlike rows other → length rows ≡ length other
length_alike rows other alike = sym (length-map rows unread) ∙ ap length alike ∙ length-map other unread

total_unread : (rows : List Row) → total (map unread rows) ≡ total rows
total_unread [] = refl
total_unread (row ∷ rows) =
    let rest : total (map unread rows) ≡ total rows = total_unread rows in
    omega (arith, total_cons (unread row) (map unread rows), total_cons row rows)

-- how many bytes they have
pub total_alike : (rows other : List Row) → AreAlike rows other → total rows ≡ total other
total_alike rows other alike = sym (total_unread rows) ∙ ap total alike ∙ total_unread other

bytes_unread : (full : FullName) (rows : List Row) → bytes_at full (map unread rows) ≡ bytes_at full rows
bytes_unread full [] = refl
bytes_unread full (row ∷ rows) = by (is_full full row) (bytes_unread full rows)
  where
    by : (b : Bool) → bytes_at full (map unread rows) ≡ bytes_at full rows
        → option_map_or (λ (each : Row). each.file.bytes) (cond b (Some (unread row)) (row_at full (map unread rows))) []
        ≡ option_map_or (λ (each : Row). each.file.bytes) (cond b (Some row) (row_at full rows)) []
    by true rest = refl
    by false rest = rest

-- what a file holds
pub bytes_alike : (full : FullName) (rows other : List Row) → AreAlike rows other → bytes_at full rows ≡ bytes_at full other
bytes_alike full rows other alike = sym (bytes_unread full rows) ∙ ap (bytes_at full) alike ∙ bytes_unread full other

-- which generation a new file takes, how many it keeps, and which one is put after
numbered_alike : (generation : Gen) (key : Key) (rows other : List Row) → AreAlike rows other
    → numbered generation (files_of key rows) ≡ numbered generation (files_of key other)
numbered_alike generation key rows other alike =
    sym (numbered_blank generation key rows)
    ∙ ap (λ (it : List Row). numbered generation (files_of key it)) (blank_alike rows other alike)
    ∙ numbered_blank generation key other

keep_alike : (retention : ℕ) (key : Key) (rows other : List Row) → AreAlike rows other → keep_at retention key rows ≡ keep_at retention key other
keep_alike retention key rows other alike =
    sym (keep_blank retention key rows)
    ∙ ap (λ (it : List Row). keep_at retention key it) (blank_alike rows other alike)
    ∙ keep_blank retention key other

found_alike : (generation : Gen) (key : Key) (rows other : List Row) → AreAlike rows other
    → found generation (files_of key rows) ≡ found generation (files_of key other)
found_alike generation key rows other alike =
    sym (found_blank generation key rows)
    ∙ ap (λ (it : List Row). found generation (files_of key it)) (blank_alike rows other alike)
    ∙ found_blank generation key other

admitted_alike : (key : Key) (generation : Gen) (size : ℕ) (rows other : List Row) → AreAlike rows other
    → admitted key generation size rows ≡ admitted key generation size other
admitted_alike key generation size rows other alike =
    ap (λ (n : ℕ). and_then (limited n (total rows) size) (numbered generation (files_of key rows))) (length_alike rows other alike)
    ∙ ap (λ (n : ℕ). and_then (limited (length other) n size) (numbered generation (files_of key rows))) (total_alike rows other alike)
    ∙ ap (and_then (limited (length other) (total other) size)) (numbered_alike generation key rows other alike)

-- the empty file that is added
abbrev opening_at : ℕ → ℕ → Key → ℕ → Result Opening Code
opening_at keep moment key number =
    let row = new_row key keep (moment_of moment) [] number in
    Ok (record { target = full_of row; new = Some row })

opening_alike : (retention moment : ℕ) (key : Key) (number : Option ℕ) (generation : Gen) (rows other : List Row) → AreAlike rows other
    → opening_of retention moment key number generation rows ≡ opening_of retention moment key number generation other
opening_alike retention moment key (Some number) generation rows other alike = refl
opening_alike retention moment key None generation rows other alike =
    ap (λ (keep : ℕ). and_then (opening_at keep moment key) (admitted key generation 0 rows)) (keep_alike retention key rows other alike)
    ∙ ap (and_then (opening_at (keep_at retention key other) moment key)) (admitted_alike key generation 0 rows other alike)

-- the file that is put after
pub opened_alike : (retention moment : ℕ) (key : Key) (generation : Gen) (rows other : List Row) → AreAlike rows other
    → opened retention moment key generation rows ≡ opened retention moment key generation other
opened_alike retention moment key generation rows other alike =
    by (found generation (files_of key rows))
    ∙ ap (and_then (λ there. opening_of retention moment key there generation other)) (found_alike generation key rows other alike)
  where
    by : (there : Result (Option ℕ) Code) → and_then (λ there. opening_of retention moment key there generation rows) there
        ≡ and_then (λ there. opening_of retention moment key there generation other) there
    by (Ok there) = opening_alike retention moment key there generation rows other alike
    by (Err code) = refl

-- how many files there are of a name
size_alike : (key : Key) (rows other : List Row) → AreAlike rows other → length (files_of key rows) ≡ length (files_of key other)
size_alike key rows other alike =
    sym (size_blank key rows) ∙ ap (λ (it : List Row). length (files_of key it)) (blank_alike rows other alike) ∙ size_blank key other

-- the rows, when they are read
all_read : (reading : Option Reading) (state : State) → AreAlike state.rows (rows_read reading state)
all_read None state = refl
all_read (Some reading) state = alike_read (is_selected_by reading.files.flags.deleted reading.files state) reading.moment state.rows

-- when the reading is done, what is left can be done
pub left_to_do : (change : Change) (held : StoreWithRoom) → IsFor change held
    → IsFor (record change { reading = None }) (record held { state = record held.state { rows = rows_read change.reading held.state } })
left_to_do change held is = record {
  sound = is.sound;
  doable = is.doable;
  directories = is.directories;
  logical = is.logical;
  names = λ key some. omega (arith, size_alike key held.state.rows (rows_read change.reading held.state) (all_read change.reading held.state), is.names key some);
  queue = is.queue;
}
