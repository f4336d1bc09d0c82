-- Rows without their bytes, as if nobody had read them, are counted, added and taken out as the rows themselves.
-- What no test sees of a row is taken out by a map: names, numbers and counts are told by map blank.
use Rattle.std.proofs.Common.{◌≡◌, ℕ, suc, max, min, ◌==◌, ◌&&◌, ◌||◌, nat_le, Bool, true, false, not, cond, List, [], ◌∷◌, length, filter, map, Option, Some, None, Ok, Err, refl, ap, ◌∙◌}
use Rattle.std.specs.Option.{option_map, option_map_or}
use Rattle.std.specs.Ordering.{is_lt}
use Rattle.std.proofs.lemmas.List.{length-map}
use Rattle.cm_fields.specs.declared.code.Code.TheVariants.{NoFile}
use Rattle.cm_fields.specs.declared.value.Gen.{Gen}
use Rattle.cm_fields.specs.declared.value.Gen.TheVariants.{Missing, Highest, Next, Lowest, All, Number}
use Rattle.ex_generations.specs.declared.file.File.{File}
use Rattle.ex_generations.specs.Generations as generations
use Rattle.ex_generations.specs.Generations.{has, highest, is_generation, lowest, unmarked}
use Rattle.ex_generations.specs.Retention.{keep_for, live}
use Rattle.ex_store.specs.declared.key.FullName.{FullName}
use Rattle.ex_store.specs.declared.key.Key.{Key}
use Rattle.ex_store.specs.declared.row.Row.{Row}
use Rattle.ex_store.specs.Adding.{keep_at, next_of, numbered}
use Rattle.ex_store.specs.Appending.{found}
use Rattle.ex_store.specs.Ready.{reinserted}
use Rattle.ex_store.specs.Rows.{added, blank, by_row, files_of, inserted, is_full, is_of, kept_newest, retained, row_at, with_mark, with_name, without}

files_blank : (key : Key) (rows : List Row) → files_of key (map blank rows) ≡ map generations.blank (files_of key rows)
files_blank key [] = refl
files_blank key (row ∷ rows) = by (is_of key row) (files_blank key rows)
  where
    by : (b : Bool) → files_of key (map blank rows) ≡ map generations.blank (files_of key rows)
        → map (λ (each : Row). each.file) (cond b (blank row ∷ filter (is_of key) (map blank rows)) (filter (is_of key) (map blank rows)))
        ≡ map generations.blank (map (λ (each : Row). each.file) (cond b (row ∷ filter (is_of key) rows) (filter (is_of key) rows)))
    by true rest = ap (λ files. generations.blank row.file ∷ files) rest
    by false rest = rest

pub size_blank : (key : Key) (rows : List Row) → length (files_of key (map blank rows)) ≡ length (files_of key rows)
size_blank key rows = ap (λ (it : List File). length it) (files_blank key rows) ∙ length-map (files_of key rows) generations.blank

live_blank : (files : List File) → live (map generations.blank files) ≡ live files
live_blank [] = refl
live_blank (file ∷ files) = by file.deleted (live_blank files)
  where
    by : (b : Bool) → live (map generations.blank files) ≡ live files
        → length (cond (not b) (generations.blank file ∷ unmarked (map generations.blank files)) (unmarked (map generations.blank files)))
        ≡ length (cond (not b) (file ∷ unmarked files) (unmarked files))
    by true rest = rest
    by false rest = ap (λ n. suc n) rest

has_blank : (number : ℕ) (files : List File) → has number (map generations.blank files) ≡ has number files
has_blank number [] = refl
has_blank number (file ∷ files) = ap (λ rest. is_generation number file || rest) (has_blank number files)

highest_blank : (files : List File) → highest (map generations.blank files) ≡ highest files
highest_blank [] = refl
highest_blank (file ∷ files) =
    ap (λ rest. Some (option_map_or (max file.generation) rest file.generation)) (highest_blank files)

next_blank : (files : List File) → next_of (map generations.blank files) ≡ next_of files
next_blank files = rw (highest_blank files)

numbered_files : (generation : Gen) (files : List File) → numbered generation (map generations.blank files) ≡ numbered generation files
numbered_files Missing files = next_blank files
numbered_files Highest files = next_blank files
numbered_files Next files = next_blank files
numbered_files Lowest files = next_blank files
numbered_files All files = next_blank files
numbered_files (Number number) files = rw (has_blank number files)

pub numbered_blank : (generation : Gen) (key : Key) (rows : List Row)
    → numbered generation (files_of key (map blank rows)) ≡ numbered generation (files_of key rows)
numbered_blank generation key rows = rw (files_blank key rows) (numbered_files generation (files_of key rows))

lowest_blank : (files : List File) → lowest (map generations.blank files) ≡ lowest files
lowest_blank [] = refl
lowest_blank (file ∷ files) =
    ap (λ rest. Some (option_map_or (min file.generation) rest file.generation)) (lowest_blank files)

unmarked_blank : (files : List File) → unmarked (map generations.blank files) ≡ map generations.blank (unmarked files)
unmarked_blank [] = refl
unmarked_blank (file ∷ files) = by file.deleted (unmarked_blank files)
  where
    by : (b : Bool) → unmarked (map generations.blank files) ≡ map generations.blank (unmarked files)
        → cond (not b) (generations.blank file ∷ unmarked (map generations.blank files)) (unmarked (map generations.blank files))
        ≡ map generations.blank (cond (not b) (file ∷ unmarked files) (unmarked files))
    by true rest = rest
    by false rest = ap (λ more. generations.blank file ∷ more) rest

highest_unmarked : (files : List File) → highest (unmarked (map generations.blank files)) ≡ highest (unmarked files)
highest_unmarked files = ap highest (unmarked_blank files) ∙ highest_blank (unmarked files)

found_files : (generation : Gen) (files : List File) → found generation (map generations.blank files) ≡ found generation files
found_files Missing files = ap Ok (highest_unmarked files)
found_files Highest files = ap Ok (highest_unmarked files)
found_files Next files = refl
found_files Lowest files = ap Ok (ap lowest (unmarked_blank files) ∙ lowest_blank (unmarked files))
found_files All files = ap Ok (highest_unmarked files)
found_files (Number number) files =
    let live : has number (unmarked (map generations.blank files)) ≡ has number (unmarked files) =
    ap (has number) (unmarked_blank files) ∙ has_blank number (unmarked files) in
    ap (λ (b : Bool). cond b (Ok (Some number)) (cond (has number (map generations.blank files)) (Err NoFile) (Ok None))) live
    ∙ ap (λ (b : Bool). cond (has number (unmarked files)) (Ok (Some number)) (cond b (Err NoFile) (Ok None))) (has_blank number files)

pub found_blank : (generation : Gen) (key : Key) (rows : List Row)
    → found generation (files_of key (map blank rows)) ≡ found generation (files_of key rows)
found_blank generation key rows = ap (found generation) (files_blank key rows) ∙ found_files generation (files_of key rows)

keep_files : (retention : ℕ) (files : List File) → keep_for retention (map generations.blank files) ≡ keep_for retention files
keep_files retention [] = refl
keep_files retention (file ∷ files) = keep_files file.keep files

pub keep_blank : (retention : ℕ) (key : Key) (rows : List Row) → keep_at retention key (map blank rows) ≡ keep_at retention key rows
keep_blank retention key rows = rw (files_blank key rows) (keep_files retention (files_of key rows))

inserted_blank : (row : Row) (rows : List Row) → inserted (blank row) (map blank rows) ≡ map blank (inserted row rows)
inserted_blank row [] = refl
inserted_blank row (other ∷ rows) = by (is_lt (by_row other row)) (inserted_blank row rows)
  where
    by : (b : Bool) → inserted (blank row) (map blank rows) ≡ map blank (inserted row rows)
        → cond b (blank other ∷ inserted (blank row) (map blank rows)) (blank row ∷ blank other ∷ map blank rows)
        ≡ map blank (cond b (other ∷ inserted row rows) (row ∷ other ∷ rows))
    by true rest = ap (λ more. blank other ∷ more) rest
    by false rest = refl

live_of_blank : (key : Key) (rows : List Row) → live (files_of key (map blank rows)) ≡ live (files_of key rows)
live_of_blank key rows = rw (files_blank key rows) (live_blank (files_of key rows))

kept_blank : (retention : ℕ) (key : Key) (rows : List Row)
    → kept_newest retention key (map blank rows) ≡ map blank (kept_newest retention key rows)
kept_blank retention key [] = refl
kept_blank retention key (row ∷ rows) =
    rw (live_of_blank key rows, kept_blank retention key rows)
    (by (is_of key row && nat_le retention (live (files_of key rows))))
  where
    by : (b : Bool) → cond b (with_mark true (blank row)) (blank row) ∷ map blank (kept_newest retention key rows)
        ≡ blank (cond b (with_mark true row) row) ∷ map blank (kept_newest retention key rows)
    by true = refl
    by false = refl

retained_blank : (retention : ℕ) (key : Key) (rows : List Row)
    → retained retention key (map blank rows) ≡ map blank (retained retention key rows)
retained_blank retention key rows = by (retention == 0)
  where
    by : (b : Bool) → cond b (map blank rows) (kept_newest retention key (map blank rows))
        ≡ map blank (cond b rows (kept_newest retention key rows))
    by true = refl
    by false = kept_blank retention key rows

pub added_blank : (retention : ℕ) (row : Row) (rows : List Row)
    → added retention (blank row) (map blank rows) ≡ map blank (added retention row rows)
added_blank retention row rows = rw (inserted_blank row rows) (retained_blank retention row.key (inserted row rows))

pub without_blank : (full : FullName) (rows : List Row) → without full (map blank rows) ≡ map blank (without full rows)
without_blank full [] = refl
without_blank full (row ∷ rows) = by (is_full full row) (without_blank full rows)
  where
    by : (b : Bool) → without full (map blank rows) ≡ map blank (without full rows)
        → cond b (map blank rows) (blank row ∷ without full (map blank rows))
        ≡ map blank (cond b rows (row ∷ without full rows))
    by true rest = refl
    by false rest = ap (λ more. blank row ∷ more) rest

pub row_at_blank : (full : FullName) (rows : List Row) → row_at full (map blank rows) ≡ option_map blank (row_at full rows)
row_at_blank full [] = refl
row_at_blank full (row ∷ rows) = by (is_full full row) (row_at_blank full rows)
  where
    by : (b : Bool) → row_at full (map blank rows) ≡ option_map blank (row_at full rows)
        → cond b (Some (blank row)) (row_at full (map blank rows))
        ≡ option_map blank (cond b (Some row) (row_at full rows))
    by true rest = refl
    by false rest = rest

pub reinserted_blank : (target : FullName) (rows : List Row) (row : Option Row)
    → reinserted target (map blank rows) (option_map blank row) ≡ map blank (reinserted target rows row)
reinserted_blank target rows None = refl
reinserted_blank target rows (Some row) = added_blank row.file.keep (with_name target row.file) rows
