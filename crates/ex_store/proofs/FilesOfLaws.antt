-- The rows of one name and type are the list of its generations: what is added to the rows is added to that list.
use Rattle.std.proofs.Common.{◌≡◌, ℕ, ◌<◌, ◌==◌, ◌&&◌, nat_lt, nat_le, Bool, true, false, not, cond, List, [], ◌∷◌, filter, map, refl, ap, arith, ◌∙◌, sym}
use Rattle.std.specs.List.{list_all}
use Rattle.std.specs.Ordering.{is_eq, is_lt, nat_cmp, ordering_reverse, ordering_then}
use Rattle.std.specs.declared.cmp.Ordering.{Ordering}
use Rattle.std.specs.declared.cmp.Ordering.TheVariants.{Less, Equal, Greater}
use Rattle.std.proofs.lemmas.Bool.{and_from, and_parts, le-ltb, ltb-true, not-true}
use Rattle.cm_lists.proofs.Ascents.{above_chain, all_above, is_lt_turned, is_sorted}
use Rattle.cm_lists.proofs.Numbers.{is_lt-nat_cmp}
use Rattle.cm_lists.proofs.Orders.{is_eq-true, is_eq_from_reverse}
use Rattle.cm_lists.specs.Ascent.{ascends}
use Rattle.ex_generations.specs.declared.file.File.{File}
use Rattle.ex_generations.specs.Generations.{has, marked_as}
use Rattle.ex_generations.specs.Generations as generations
use Rattle.ex_generations.specs.Retention.{live}
use Rattle.ex_generations.specs.Retention as retaining
use Rattle.ex_store.specs.declared.key.Key.{Key}
use Rattle.ex_store.specs.declared.row.Row.{Row}
use Rattle.ex_store.specs.Rows.{added, by_key, by_row, files_of, full_of, inserted, is_full, is_of, kept_newest, retained, with_mark}
use Rattle.cm_lists.proofs.Ascents.{sorted_ascends}
use Rattle.ex_store.proofs.AreRowsLaws.{absent_has, by_key_total, by_row_total, is_absent}

-- a key is its own
is_own : (row : Row) → is_of row.key row ≡ true
is_own row = is_eq_from_reverse (by_key row.key row.key) (by_key_total.antisymm row.key row.key)

-- of two rows of one key, the lower one has the lower generation
below_of : (other row : Row) → is_of row.key other ≡ true
    → is_lt (by_row other row) ≡ nat_lt other.file.generation row.file.generation
below_of other row is = by (by_key other.key row.key) is
  where
    by : (o : Ordering) → is_eq o ≡ true
        → is_lt (ordering_then o (nat_cmp other.file.generation row.file.generation)) ≡ nat_lt other.file.generation row.file.generation
    by Less is = absurd (cc)
    by Equal is = is_lt-nat_cmp other.file.generation row.file.generation
    by Greater is = absurd (cc)

above_of : (row other : Row) → is_of row.key other ≡ true
    → is_lt (by_row row other) ≡ nat_lt row.file.generation other.file.generation
above_of row other is = by (by_key row.key other.key) (by_key other.key row.key) (by_key_total.antisymm row.key other.key) is
  where
    by : (o p : Ordering) → o ≡ ordering_reverse p → is_eq p ≡ true
        → is_lt (ordering_then o (nat_cmp row.file.generation other.file.generation)) ≡ nat_lt row.file.generation other.file.generation
    by o Less turn is = absurd (cc)
    by o Equal turn is = rw turn (is_lt-nat_cmp row.file.generation other.file.generation)
    by o Greater turn is = absurd (cc)

-- files above a generation
abbrev all_higher : ℕ → List File → Bool
all_higher number files = list_all (λ file. nat_lt number file.generation) files

higher_of : (row : Row) (rows : List Row) → all_above by_row row rows ≡ true
    → all_higher row.file.generation (files_of row.key rows) ≡ true
higher_of row [] above = refl
higher_of row (other ∷ rows) above =
    by (is_of row.key other) refl (higher_of row rows (and_parts _ _ above).1)
  where
    by : (b : Bool) → is_of row.key other ≡ b → all_higher row.file.generation (files_of row.key rows) ≡ true
        → all_higher row.file.generation (map (λ (each : Row). each.file) (cond b (other ∷ filter (is_of row.key) rows) (filter (is_of row.key) rows))) ≡ true
    by true is rest = and_from _ _ (sym (above_of row other is) ∙ (and_parts _ _ above).0) rest
    by false is rest = rest

lower_none : (number : ℕ) (files : List File) → all_higher number files ≡ true
    → filter (λ (other : File). nat_lt other.generation number) files ≡ []
lower_none number [] higher = refl
lower_none number (file ∷ files) higher =
    let parts : (nat_lt number file.generation ≡ true) × (all_higher number files ≡ true) = and_parts _ _ higher in
    let less : number < file.generation = ltb-true number file.generation parts.0 in
    rw (le-ltb file.generation number (omega (arith, less))) (lower_none number files parts.1)

higher_all : (number : ℕ) (files : List File) → all_higher number files ≡ true
    → filter (λ (other : File). nat_lt number other.generation) files ≡ files
higher_all number [] higher = refl
higher_all number (file ∷ files) higher =
    let parts : (nat_lt number file.generation ≡ true) × (all_higher number files ≡ true) = and_parts _ _ higher in
    rw parts.0 (ap (λ rest. file ∷ rest) (higher_all number files parts.1))

-- a file below all others goes first
inserted_first : (file : File) (files : List File) → all_higher file.generation files ≡ true
    → generations.inserted file files ≡ file ∷ files
inserted_first file files higher =
    rw (lower_none file.generation files higher, higher_all file.generation files higher)

inserted_after : (new file : File) (files : List File) → nat_lt file.generation new.generation ≡ true
    → generations.inserted new (file ∷ files) ≡ file ∷ generations.inserted new files
inserted_after new file files below =
    let less : file.generation < new.generation = ltb-true file.generation new.generation below in
    rw (below, le-ltb new.generation file.generation (omega (arith, less)))

-- a row in front of others is the first of its generations
files_first : (row : Row) (rows : List Row) → files_of row.key (row ∷ rows) ≡ row.file ∷ files_of row.key rows
files_first row rows = rw (is_own row)

files_front : (row : Row) (rows : List Row) → all_above by_row row rows ≡ true
    → files_of row.key (row ∷ rows) ≡ generations.inserted row.file (files_of row.key rows)
files_front row rows above =
    files_first row rows ∙ sym (inserted_first row.file (files_of row.key rows) (higher_of row rows above))

files_inserted : (row : Row) (rows : List Row) → is_absent (full_of row) rows ≡ true → is_sorted by_row rows ≡ true
    → files_of row.key (inserted row rows) ≡ generations.inserted row.file (files_of row.key rows)
files_inserted row [] absent sorted = files_front row [] refl
files_inserted row (other ∷ rows) absent sorted =
    by (is_lt (by_row other row)) refl (files_inserted row rows parts.1 after.1)
  where
    parts : (not (is_full (full_of row) other) ≡ true) × (is_absent (full_of row) rows ≡ true)
    parts = and_parts _ _ absent

    after : (all_above by_row other rows ≡ true) × (is_sorted by_row rows ≡ true)
    after = and_parts _ _ sorted

    step : (b : Bool) → is_of row.key other ≡ b → is_lt (by_row other row) ≡ true
        → files_of row.key (inserted row rows) ≡ generations.inserted row.file (files_of row.key rows)
        → map (λ (each : Row). each.file) (cond b (other ∷ filter (is_of row.key) (inserted row rows)) (filter (is_of row.key) (inserted row rows)))
        ≡ generations.inserted row.file (map (λ (each : Row). each.file) (cond b (other ∷ filter (is_of row.key) rows) (filter (is_of row.key) rows)))
    step true is less rest =
        ap (λ files. other.file ∷ files) rest
        ∙ sym (inserted_after row.file other.file (files_of row.key rows) (sym (below_of other row is) ∙ less))
    step false is less rest = rest

    by : (b : Bool) → is_lt (by_row other row) ≡ b
        → files_of row.key (inserted row rows) ≡ generations.inserted row.file (files_of row.key rows)
        → files_of row.key (cond b (other ∷ inserted row rows) (row ∷ other ∷ rows)) ≡ generations.inserted row.file (files_of row.key (other ∷ rows))
    by true less rest = step (is_of row.key other) refl less rest
    by false less rest =
        let above : is_lt (by_row row other) ≡ true = is_lt_turned by_row by_row_total other row less (not-true _ parts.0) in
        files_front row (other ∷ rows) (and_from _ _ above (above_chain by_row by_row_total row other rows above after.0))

files_kept : (retention : ℕ) (key : Key) (rows : List Row)
    → files_of key (kept_newest retention key rows) ≡ retaining.kept_newest retention (files_of key rows)
files_kept retention key [] = refl
files_kept retention key (row ∷ rows) =
    by (is_of key row) (nat_le retention (live (files_of key rows))) refl refl (files_kept retention key rows)
  where
    by : (of marks : Bool) → is_of key row ≡ of → nat_le retention (live (files_of key rows)) ≡ marks
        → files_of key (kept_newest retention key rows) ≡ retaining.kept_newest retention (files_of key rows)
        → files_of key (cond (of && marks) (with_mark true row) row ∷ kept_newest retention key rows)
        ≡ retaining.kept_newest retention (map (λ (each : Row). each.file) (cond of (row ∷ filter (is_of key) rows) (filter (is_of key) rows)))
    by true true is le rest = rw (is, le) (ap (λ files. marked_as true row.file ∷ files) rest)
    by true false is le rest = rw (is, le) (ap (λ files. row.file ∷ files) rest)
    by false marks is le rest = rw is rest

files_retained : (retention : ℕ) (key : Key) (rows : List Row)
    → files_of key (retained retention key rows) ≡ retaining.retained retention (files_of key rows)
files_retained retention key rows = by (retention == 0)
  where
    by : (b : Bool) → files_of key (cond b rows (kept_newest retention key rows))
        ≡ cond b (files_of key rows) (retaining.kept_newest retention (files_of key rows))
    by true = refl
    by false = files_kept retention key rows

-- what is added to the rows is added to the generations of its name and type
pub files_added : (retention : ℕ) (row : Row) (rows : List Row) → ascends by_row rows ≡ true
    → has row.file.generation (files_of row.key rows) ≡ false
    → files_of row.key (added retention row rows) ≡ retaining.retained retention (generations.inserted row.file (files_of row.key rows))
files_added retention row rows ascend none =
    files_retained retention row.key (inserted row rows)
    ∙ ap (retaining.retained retention)
    (files_inserted row rows (absent_has row.key row.file.generation rows none) (sorted_ascends by_row by_row_total rows ascend))

-- one more row in front
files_more : (key : Key) (row : Row) (before after : List Row) → files_of key before ≡ files_of key after
    → files_of key (row ∷ before) ≡ files_of key (row ∷ after)
files_more key row before after rest = by (is_of key row)
  where
    by : (b : Bool) → map (λ (each : Row). each.file) (cond b (row ∷ filter (is_of key) before) (filter (is_of key) before))
        ≡ map (λ (each : Row). each.file) (cond b (row ∷ filter (is_of key) after) (filter (is_of key) after))
    by true = ap (λ files. row.file ∷ files) rest
    by false = rest

others_inserted : (key : Key) (row : Row) (rows : List Row) → is_of key row ≡ false
    → files_of key (inserted row rows) ≡ files_of key rows
others_inserted key row [] apart = rw apart
others_inserted key row (other ∷ rows) apart = by (is_lt (by_row other row)) (others_inserted key row rows apart)
  where
    by : (b : Bool) → files_of key (inserted row rows) ≡ files_of key rows
        → files_of key (cond b (other ∷ inserted row rows) (row ∷ other ∷ rows)) ≡ files_of key (other ∷ rows)
    by true rest = files_more key other (inserted row rows) rows rest
    by false rest = rw apart

-- a row of one key is of no other
of_no_other : (key own : Key) (row : Row) → is_of own row ≡ true → is_eq (by_key own key) ≡ false → is_of key row ≡ false
of_no_other key own row is apart =
    ap is_eq (by_key_total.congr row.key own key (is_eq-true (by_key row.key own) is)) ∙ apart

others_kept : (retention : ℕ) (key own : Key) (rows : List Row) → is_eq (by_key own key) ≡ false
    → files_of key (kept_newest retention own rows) ≡ files_of key rows
others_kept retention key own [] apart = refl
others_kept retention key own (row ∷ rows) apart =
    by (is_of own row) (nat_le retention (live (files_of own rows))) refl (others_kept retention key own rows apart)
  where
    by : (of marks : Bool) → is_of own row ≡ of → files_of key (kept_newest retention own rows) ≡ files_of key rows
        → files_of key (cond (of && marks) (with_mark true row) row ∷ kept_newest retention own rows) ≡ files_of key (row ∷ rows)
    by true true is rest = rw (of_no_other key own row is apart) rest
    by true false is rest = files_more key row (kept_newest retention own rows) rows rest
    by false marks is rest = files_more key row (kept_newest retention own rows) rows rest

others_retained : (retention : ℕ) (key own : Key) (rows : List Row) → is_eq (by_key own key) ≡ false
    → files_of key (retained retention own rows) ≡ files_of key rows
others_retained retention key own rows apart = by (retention == 0)
  where
    by : (b : Bool) → files_of key (cond b rows (kept_newest retention own rows)) ≡ files_of key rows
    by true = refl
    by false = others_kept retention key own rows apart

-- what is added is among its own generations alone
pub files_apart : (retention : ℕ) (row : Row) (rows : List Row) (key : Key) → is_of key row ≡ false
    → files_of key (added retention row rows) ≡ files_of key rows
files_apart retention row rows key apart =
    others_retained retention key row.key (inserted row rows) apart ∙ others_inserted key row rows apart
