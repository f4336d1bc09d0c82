-- Files are given other names one after the other: where the walk over the sources stands.
use Rattle.std.proofs.Common.{◌≡◌, ℕ, zero, suc, ◌+◌, ◌==◌, ◌&&◌, nat_le, Bool, true, false, not, cond, List, [], ◌∷◌, ◌++◌, length, slice_get, filter, Option, Some, None, refl, ap, arith, ◌∙◌, subst}
use Rattle.std.specs.List.{list_all}
use Rattle.std.specs.Option.{option_map, option_to_list}
use Rattle.std.specs.Ordering.{is_eq, is_lt}
use Rattle.std.specs.declared.cmp.Ordering.TheVariants.{Equal}
use Rattle.std.proofs.lemmas.Bool.{and_from, and_parts, not-true, not_from_false}
use Rattle.std.proofs.lemmas.Cmp.{tied_back, tied_itself}
use Rattle.cm_lists.proofs.Ascents.{all_above, is_sorted}
use Rattle.cm_lists.proofs.Orders.{is_eq-true, is_eq_from_equal, lt_is_not_eq, reverse_is_not_eq}
use Rattle.cm_lists.proofs.Positions.{find_among, find_found}
use Rattle.cm_lists.proofs.Quantifiers.{all_at}
use Rattle.cm_lists.specs.Ascent.{ascends}
use Rattle.ex_generations.specs.Retention.{live}
use Rattle.ex_store.specs.declared.directory.Directory.{Directory}
use Rattle.ex_store.specs.declared.key.FullName.{FullName}
use Rattle.ex_store.specs.declared.key.Key.{Key}
use Rattle.ex_store.specs.declared.row.Row.{Row}
use Rattle.ex_store.specs.Positions.{elements_at}
use Rattle.ex_store.specs.Renaming.{AreDistinct}
use Rattle.ex_store.specs.Rows.{added, by_full, by_row, files_of, full_of, inserted, is_full, is_of, kept_newest, row_at, total, with_mark, without}
use Rattle.ex_store.specs.WellFormed.{AreRows, is_row_among}
use Rattle.cm_lists.proofs.Ascents.{ascends_filter, ascends_sorted, sorted_ascends}
use Rattle.ex_store.proofs.TotalLaws.{total_cons}
use Rattle.ex_store.proofs.AreRowsLaws.{by_full_total, by_row_total, is_absent}

-- a row as it is, but for its mark
abbrev pub plain : Row → Row
plain row = with_mark false row

-- a row is among the rows, marked or not
abbrev IsHere : List Row → Row → Type 0
IsHere rows row = option_map plain (row_at (full_of row) rows) ≡ Some (plain row)

-- each of some rows is
abbrev pub AreThere : List Row → List Row → Type 0
AreThere rows [] = Unit
AreThere rows (row ∷ more) = IsHere rows row × AreThere rows more

itself : (row : Row) → is_full (full_of row) row ≡ true
itself row = is_eq_from_equal (by_full (full_of row) (full_of row)) (tied_itself by_full_total (full_of row))

-- a row at a place of rows that ascend is found there
here_at : (rows : List Row) (at : ℕ) (row : Row) → is_sorted by_row rows ≡ true → slice_get rows at ≡ Some row
    → row_at (full_of row) rows ≡ Some row
here_at [] at row sorted is = absurd (cc)
here_at (first ∷ rows) zero row sorted is =
    let same : first ≡ row = cc in
    subst (λ (each : Row). row_at (full_of each) (first ∷ rows) ≡ Some each) same (rw (itself first) refl)
here_at (first ∷ rows) (suc at) row sorted is =
    let parts = and_parts _ _ sorted in
    let less = all_at (λ other. is_lt (by_row first other)) rows at row parts.0 is in
    rw (lt_is_not_eq (by_row first row) less) (here_at rows at row parts.1 is)

pub there_elements : (rows : List Row) (positions : List ℕ) → is_sorted by_row rows ≡ true → AreThere rows (elements_at rows positions)
there_elements rows [] sorted = tt
there_elements rows (at ∷ positions) sorted = by (slice_get rows at) refl (there_elements rows positions sorted)
  where
    by : (o : Option Row) → slice_get rows at ≡ o → AreThere rows (elements_at rows positions)
        → AreThere rows (option_to_list o ++ elements_at rows positions)
    by None is rest = rest
    by (Some row) is rest = (ap (option_map plain) (here_at rows at row sorted is), rest)

pub distinct_sorted : (rows : List Row) → is_sorted by_row rows ≡ true → AreDistinct rows
distinct_sorted [] sorted = tt
distinct_sorted (row ∷ rows) sorted =
    let parts = and_parts _ _ sorted in
    (differ rows parts.0, distinct_sorted rows parts.1)
  where
    differ : (others : List Row) → all_above by_row row others ≡ true
        → list_all (λ other. not (is_full (full_of row) other)) others ≡ true
    differ [] above = refl
    differ (other ∷ others) above =
        let parts = and_parts _ _ above in
        and_from _ _ (not_from_false _ (reverse_is_not_eq (by_row other row) (by_row row other) (by_row_total.antisymm other row) parts.0)) (differ others parts.1)

-- of two names that are not one, no row has both
apart : (full : FullName) (row other : Row) → is_full full row ≡ true → is_full full other ≡ false → is_full (full_of other) row ≡ false
apart full row other one not_other = by (is_full (full_of other) row) refl
  where
    by : (b : Bool) → is_full (full_of other) row ≡ b → b ≡ false
    by false is = refl
    by true is =
        let same : by_full (full_of row) full ≡ by_full (full_of other) full =
        by_full_total.congr (full_of row) (full_of other) full (is_eq-true _ is) in
        let both : is_full full row ≡ is_full full other = ap is_eq same in
        absurd (cc)

here_without : (full : FullName) (other : Row) (rows : List Row) → is_full full other ≡ false
    → row_at (full_of other) (without full rows) ≡ row_at (full_of other) rows
here_without full other [] differs = refl
here_without full other (row ∷ rows) differs = by (is_full full row) refl (here_without full other rows differs)
  where
    by : (b : Bool) → is_full full row ≡ b → row_at (full_of other) (without full rows) ≡ row_at (full_of other) rows
        → row_at (full_of other) (cond b rows (row ∷ without full rows))
        ≡ cond (is_full (full_of other) row) (Some row) (row_at (full_of other) rows)
    by true one rest = rw (apart full row other one differs) refl
    by false one rest = ap (λ (more : Option Row). cond (is_full (full_of other) row) (Some row) more) rest

here_inserted : (full : FullName) (new : Row) (rows : List Row) → is_full full new ≡ false
    → row_at full (inserted new rows) ≡ row_at full rows
here_inserted full new [] differs = rw differs refl
here_inserted full new (row ∷ rows) differs = by (is_lt (by_row row new)) (here_inserted full new rows differs)
  where
    by : (b : Bool) → row_at full (inserted new rows) ≡ row_at full rows
        → row_at full (cond b (row ∷ inserted new rows) (new ∷ row ∷ rows)) ≡ row_at full (row ∷ rows)
    by true rest = ap (λ (more : Option Row). cond (is_full full row) (Some row) more) rest
    by false rest = rw differs refl

here_kept : (full : FullName) (retention : ℕ) (key : Key) (rows : List Row)
    → option_map plain (row_at full (kept_newest retention key rows)) ≡ option_map plain (row_at full rows)
here_kept full retention key [] = refl
here_kept full retention key (row ∷ rows) =
    by (is_of key row && nat_le retention (live (files_of key rows))) (is_full full row) refl (here_kept full retention key rows)
  where
    by : (b found : Bool) → is_full full row ≡ found
        → option_map plain (row_at full (kept_newest retention key rows)) ≡ option_map plain (row_at full rows)
        → option_map plain (row_at full (cond b (with_mark true row) row ∷ kept_newest retention key rows))
        ≡ option_map plain (cond found (Some row) (row_at full rows))
    by true true is rest = rw is refl
    by true false is rest = rw is rest
    by false true is rest = rw is refl
    by false false is rest = rw is rest

here_added : (full : FullName) (retention : ℕ) (new : Row) (rows : List Row) → is_full full new ≡ false
    → option_map plain (row_at full (added retention new rows)) ≡ option_map plain (row_at full rows)
here_added full retention new rows differs = by (retention == 0)
  where
    inserted_there : option_map plain (row_at full (inserted new rows)) ≡ option_map plain (row_at full rows)
    inserted_there = ap (option_map plain) (here_inserted full new rows differs)

    by : (b : Bool) → option_map plain (row_at full (cond b (inserted new rows) (kept_newest retention new.key (inserted new rows))))
        ≡ option_map plain (row_at full rows)
    by true = inserted_there
    by false = here_kept full retention new.key (inserted new rows) ∙ inserted_there

-- a name that no row has is none of one that is there
fresh : (full : FullName) (new : Row) (rows : List Row) (row : Row) → is_absent (full_of new) rows ≡ true
    → row_at full rows ≡ Some row → is_full full new ≡ false
fresh full new rows row absent there = by (is_full full new) refl
  where
    differs : is_full (full_of new) row ≡ false
    differs = not-true _ (find_among (λ other. not (is_full (full_of new) other)) (is_full full) rows row absent there)

    has : is_full full row ≡ true
    has = find_found (is_full full) rows row there

    by : (b : Bool) → is_full full new ≡ b → b ≡ false
    by false is = refl
    by true is =
        let first : by_full (full_of row) (full_of new) ≡ by_full full (full_of new) =
        by_full_total.congr (full_of row) full (full_of new) (is_eq-true _ has) in
        let second : by_full full (full_of new) ≡ Equal = tied_back by_full_total (full_of new) full (is_eq-true _ is) in
        let both : is_full (full_of new) row ≡ true = is_eq_from_equal _ (first ∙ second) in
        let neither : is_full (full_of new) row ≡ false = differs in
        absurd (cc)

pub some_of : (o : Option Row) (row : Row) → option_map plain o ≡ Some (plain row) → (found : Row) × (o ≡ Some found) × (plain found ≡ plain row)
some_of None row is = absurd (cc)
some_of (Some found) row is = (found, refl, cc)

-- where a row was taken out and added under a free name, the others are there still
pub there_moved : (retention : ℕ) (source new : Row) (rows others : List Row) → is_absent (full_of new) (without (full_of source) rows) ≡ true
    → list_all (λ other. not (is_full (full_of source) other)) others ≡ true → AreThere rows others
    → AreThere (added retention new (without (full_of source) rows)) others
there_moved retention source new rows [] absent distinct there = tt
there_moved retention source new rows (other ∷ others) absent distinct there =
    let parts = and_parts _ _ distinct in
    let stays = here_without (full_of source) other rows (not-true _ parts.0) in
    let here : IsHere (without (full_of source) rows) other = ap (option_map plain) stays ∙ there.0 in
    let found = some_of _ other here in
    let differs = fresh (full_of other) new (without (full_of source) rows) found.0 absent found.1 in (
      here_added (full_of other) retention new (without (full_of source) rows) differs ∙ here,
      there_moved retention source new rows others absent parts.1 there.1,
    )

pub length_without : (full : FullName) (rows : List Row) (row : Row) → row_at full rows ≡ Some row
    → suc (length (without full rows)) ≡ length rows
length_without full [] row is = absurd (cc)
length_without full (first ∷ rows) row is = by (is_full full first) (length_without full rows row) is
  where
    by : (b : Bool) → (row_at full rows ≡ Some row → suc (length (without full rows)) ≡ length rows)
        → cond b (Some first) (row_at full rows) ≡ Some row
        → suc (length (cond b rows (first ∷ without full rows))) ≡ suc (length rows)
    by true rest is = refl
    by false rest is = ap (λ n. suc n) (rest is)

pub total_without : (full : FullName) (rows : List Row) (row : Row) → row_at full rows ≡ Some row
    → total (without full rows) + length row.file.bytes ≡ total rows
total_without full [] row is = absurd (cc)
total_without full (first ∷ rows) row is = by (is_full full first) (total_without full rows row) is
  where
    by : (b : Bool) → (row_at full rows ≡ Some row → total (without full rows) + length row.file.bytes ≡ total rows)
        → cond b (Some first) (row_at full rows) ≡ Some row
        → total (cond b rows (first ∷ without full rows)) + length row.file.bytes ≡ total (first ∷ rows)
    by true rest is =
        let same : first ≡ row = cc in
        let all = total_cons first rows in
        let sizes : length first.file.bytes ≡ length row.file.bytes = ap (λ (each : Row). length each.file.bytes) same in
        omega (arith, all, sizes)
    by false rest is =
        let all = total_cons first rows in
        let left = total_cons first (without full rows) in
        let more = rest is in
        omega (arith, all, left, more)

all_without : (test : Row → Bool) (full : FullName) (rows : List Row) → list_all test rows ≡ true → list_all test (without full rows) ≡ true
all_without test full [] all = refl
all_without test full (row ∷ rows) all = by (is_full full row) (all_without test full rows (and_parts _ _ all).1)
  where
    by : (b : Bool) → list_all test (without full rows) ≡ true → list_all test (cond b rows (row ∷ without full rows)) ≡ true
    by true rest = (and_parts _ _ all).1
    by false rest = and_from _ _ (and_parts _ _ all).0 rest

sorted_without : (full : FullName) (rows : List Row) → is_sorted by_row rows ≡ true → is_sorted by_row (without full rows) ≡ true
sorted_without full [] sorted = refl
sorted_without full (row ∷ rows) sorted = by (is_full full row) (sorted_without full rows (and_parts _ _ sorted).1)
  where
    by : (b : Bool) → is_sorted by_row (without full rows) ≡ true → is_sorted by_row (cond b rows (row ∷ without full rows)) ≡ true
    by true rest = (and_parts _ _ sorted).1
    by false rest = and_from _ _ (all_without _ full rows (and_parts _ _ sorted).0) rest

pub ascends_without : (full : FullName) (rows : List Row) → ascends by_row rows ≡ true → ascends by_row (without full rows) ≡ true
ascends_without full rows ascend =
    ascends_sorted by_row (without full rows) (sorted_without full rows (sorted_ascends by_row by_row_total rows ascend))

-- the rows without one of them are those of a store
pub rows_without : (directories : List Directory) (full : FullName) (rows : List Row) (row : Row) → AreRows directories rows
    → row_at full rows ≡ Some row → AreRows directories (without full rows)
rows_without directories full rows row are is =
    let count = length_without full rows row is in
    let bytes = total_without full rows row is in
    let few = are.few in
    let small = are.small in
    record {
      ascend = ascends_without full rows are.ascend;
      within = all_without (is_row_among directories) full rows are.within;
      few = omega (arith, count, few);
      small = omega (arith, bytes, small);
    }

-- no two of those rows that pass a test have one name
pub distinct_selected : (test : Row → Bool) (rows : List Row) → ascends by_row rows ≡ true → AreDistinct (filter test rows)
distinct_selected test rows ascend =
    distinct_sorted (filter test rows)
    (sorted_ascends by_row by_row_total (filter test rows) (ascends_filter by_row by_row_total test rows ascend))
