-- With a row added that is admitted, the rows are still those of a store.
-- A part of an invariant is a record (AreRows), which well_formed_with_rows and well_formed_built put back. The one
-- total order, by_row, is made of then_cmp and on (by_row_total).
use Rattle.std.proofs.Common.{◌≡◌, ℕ, ◌==◌, ◌&&◌, nat_le, Bool, true, false, not, cond, List, [], ◌∷◌, filter, map, refl, ap, ◌∙◌}
use Rattle.std.specs.Cmp.{IsTotalOrder}
use Rattle.std.specs.Cmp.Lexicographic.{on_texts}
use Rattle.std.specs.List.{list_all, list_any}
use Rattle.std.specs.Ordering.{is_eq, is_lt, nat_cmp, ordering_then}
use Rattle.std.specs.declared.cmp.Ordering.{Ordering}
use Rattle.std.specs.declared.cmp.Ordering.TheVariants.{Less, Equal, Greater}
use Rattle.std.proofs.lemmas.Bool.{and_from, and_parts, not-true, not_from_false, or_parts}
use Rattle.std.proofs.lemmas.Cmp.{nat_cmp_total, on_total, then_total}
use Rattle.cm_lists.proofs.Ascents.{above_chain, all_above, is_lt_turned, is_sorted}
use Rattle.cm_lists.proofs.Numbers.{is_eq-nat_cmp}
use Rattle.cm_lists.specs.Ascent.{ascends}
use Rattle.ex_generations.specs.Generations.{has, is_generation}
use Rattle.ex_generations.specs.Retention.{live}
use Rattle.ex_store.specs.declared.key.FullName.{FullName}
use Rattle.ex_store.specs.declared.key.Key.{Key}
use Rattle.ex_store.specs.declared.row.Row.{Row}
use Rattle.ex_store.specs.Rows.{added, by_full, by_key, by_row, files_of, full_of, inserted, is_full, is_of, kept_newest, with_mark}
use Rattle.cm_lists.proofs.Ascents.{ascends_sorted, sorted_ascends}

pub by_key_total : IsTotalOrder by_key
by_key_total =
    then_total (on_texts (λ (key : Key). key.directory))
    (then_total (on_texts (λ (key : Key). key.name)) (on_texts (λ (key : Key). key.kind)))

pub by_full_total : IsTotalOrder by_full
by_full_total =
    then_total (on_total (λ (full : FullName). full.key) by_key_total) (on_total (λ (full : FullName). full.generation) nat_cmp_total)

pub by_row_total : IsTotalOrder by_row
by_row_total = on_total full_of by_full_total

-- what a row passes and all others do, all pass with the row among them
all_inserted : (test : Row → Bool) (row : Row) (rows : List Row) → test row ≡ true → list_all test rows ≡ true
    → list_all test (inserted row rows) ≡ true
all_inserted test row [] here all = and_from _ _ here refl
all_inserted test row (other ∷ rows) here all =
    by (is_lt (by_row other row)) (all_inserted test row rows here (and_parts _ _ all).1)
  where
    by : (b : Bool) → list_all test (inserted row rows) ≡ true
        → list_all test (cond b (other ∷ inserted row rows) (row ∷ other ∷ rows)) ≡ true
    by true rest = and_from _ _ (and_parts _ _ all).0 rest
    by false rest = and_from _ _ here all

-- no row has this full name
abbrev pub is_absent : FullName → List Row → Bool
is_absent full rows = list_all (λ other. not (is_full full other)) rows

sorted_inserted : (row : Row) (rows : List Row) → is_absent (full_of row) rows ≡ true → is_sorted by_row rows ≡ true
    → is_sorted by_row (inserted row rows) ≡ true
sorted_inserted row [] absent sorted = refl
sorted_inserted row (other ∷ rows) absent sorted =
    by (is_lt (by_row other row)) refl (sorted_inserted row rows parts.1 after.1)
  where
    parts : (not (is_full (full_of row) other) ≡ true) × (is_absent (full_of row) rows ≡ true)
    parts = and_parts _ _ absent

    after : (all_above by_row other rows ≡ true) × (is_sorted by_row rows ≡ true)
    after = and_parts _ _ sorted

    by : (b : Bool) → is_lt (by_row other row) ≡ b → is_sorted by_row (inserted row rows) ≡ true
        → is_sorted by_row (cond b (other ∷ inserted row rows) (row ∷ other ∷ rows)) ≡ true
    by true less rest =
        and_from _ _ (all_inserted (λ each. is_lt (by_row other each)) row rows less after.0) rest
    by false less rest =
        let above = is_lt_turned by_row by_row_total other row less (not-true _ parts.0) in
        and_from _ _ (and_from _ _ above (above_chain by_row by_row_total row other rows above after.0)) sorted

-- a test that does not look at marks
all_kept : (test : Row → Bool) → ((row : Row) → test (with_mark true row) ≡ test row) → (retention : ℕ) (key : Key) (rows : List Row)
    → list_all test (kept_newest retention key rows) ≡ list_all test rows
all_kept test same retention key [] = refl
all_kept test same retention key (row ∷ rows) =
    rw (all_kept test same retention key rows) (by (is_of key row && nat_le retention (live (files_of key rows))))
  where
    by : (b : Bool) → (test (cond b (with_mark true row) row) && list_all test rows) ≡ (test row && list_all test rows)
    by true = ap (λ first. first && list_all test rows) (same row)
    by false = refl

sorted_kept : (retention : ℕ) (key : Key) (rows : List Row) → is_sorted by_row (kept_newest retention key rows) ≡ is_sorted by_row rows
sorted_kept retention key [] = refl
sorted_kept retention key (row ∷ rows) =
    rw (sorted_kept retention key rows) (by (is_of key row && nat_le retention (live (files_of key rows))))
  where
    above : all_above by_row row (kept_newest retention key rows) ≡ all_above by_row row rows
    above = all_kept (λ each. is_lt (by_row row each)) (λ each. refl) retention key rows

    by : (b : Bool) → (all_above by_row (cond b (with_mark true row) row) (kept_newest retention key rows) && is_sorted by_row rows)
        ≡ (all_above by_row row rows && is_sorted by_row rows)
    by true = ap (λ first. first && is_sorted by_row rows) above
    by false = ap (λ first. first && is_sorted by_row rows) above

pub all_added : (test : Row → Bool) → ((row : Row) → test (with_mark true row) ≡ test row) → (retention : ℕ) (row : Row) (rows : List Row)
    → test row ≡ true → list_all test rows ≡ true → list_all test (added retention row rows) ≡ true
all_added test same retention row rows here all = by (retention == 0)
  where
    by : (b : Bool) → list_all test (cond b (inserted row rows) (kept_newest retention row.key (inserted row rows))) ≡ true
    by true = all_inserted test row rows here all
    by false = all_kept test same retention row.key (inserted row rows) ∙ all_inserted test row rows here all

pub ascends_added : (retention : ℕ) (row : Row) (rows : List Row) → is_absent (full_of row) rows ≡ true → ascends by_row rows ≡ true
    → ascends by_row (added retention row rows) ≡ true
ascends_added retention row rows absent ascend = ascends_sorted by_row (added retention row rows) (by (retention == 0))
  where
    sorted : is_sorted by_row (inserted row rows) ≡ true
    sorted = sorted_inserted row rows absent (sorted_ascends by_row by_row_total rows ascend)

    by : (b : Bool) → is_sorted by_row (cond b (inserted row rows) (kept_newest retention row.key (inserted row rows))) ≡ true
    by true = sorted
    by false = sorted_kept retention row.key (inserted row rows) ∙ sorted

pub full_parts : (key : Key) (number : ℕ) (row : Row)
    → is_full (record { key = key; generation = number }) row ≡ (is_of key row && is_generation number row.file)
full_parts key number row = by (by_key row.key key)
  where
    by : (o : Ordering) → is_eq (ordering_then o (nat_cmp row.file.generation number))
        ≡ (is_eq o && (row.file.generation == number))
    by Less = refl
    by Equal = is_eq-nat_cmp row.file.generation number
    by Greater = refl

-- a generation that is not there
pub absent_has : (key : Key) (number : ℕ) (rows : List Row) → has number (files_of key rows) ≡ false
    → is_absent (record { key = key; generation = number }) rows ≡ true
absent_has key number [] none = refl
absent_has key number (row ∷ rows) none =
    rw (full_parts key number row) (by (is_of key row) (absent_has key number rows) none)
  where
    by : (b : Bool)
        → (has number (files_of key rows) ≡ false → is_absent (record { key = key; generation = number }) rows ≡ true)
        → list_any (is_generation number) (map (λ (each : Row). each.file) (cond b (row ∷ filter (is_of key) rows) (filter (is_of key) rows))) ≡ false
        → (not (b && is_generation number row.file) && is_absent (record { key = key; generation = number }) rows) ≡ true
    by true rest none =
        let parts = or_parts _ _ none in
        and_from _ _ (not_from_false _ parts.0) (rest parts.1)
    by false rest none = rest none
