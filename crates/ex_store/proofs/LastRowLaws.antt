-- A row that goes after all others.
use Rattle.std.proofs.Common.{◌≡◌, ◌&&◌, Bool, true, false, cond, List, [], ◌∷◌, ◌++◌, map, filter, refl, ap, ◌∙◌, sym}
use Rattle.std.specs.List.{list_all, list_any}
use Rattle.std.specs.Ordering.{is_eq, is_lt}
use Rattle.std.proofs.lemmas.Bool.{and_from, and_parts}
use Rattle.cm_lists.proofs.Ascents.{all_above, is_sorted}
use Rattle.cm_lists.proofs.Bools.{second_of_no_and}
use Rattle.cm_lists.proofs.Orders.{is_lt-true}
use Rattle.cm_lists.specs.Ascent.{ascends}
use Rattle.ex_generations.specs.Generations.{has, is_generation}
use Rattle.ex_store.specs.declared.row.Row.{Row}
use Rattle.ex_store.specs.Rows.{added, by_row, files_of, full_of, inserted, is_full, is_of}
use Rattle.cm_lists.proofs.Ascents.{sorted_ascends}
use Rattle.ex_store.proofs.AreRowsLaws.{by_row_total, full_parts}

-- a row after all others is added there
none_full : (row other : Row) → is_lt (by_row other row) ≡ true → is_full (full_of row) other ≡ false
none_full row other less = ap is_eq (is_lt-true (by_row other row) less)

none_below_row : (row : Row) (rows : List Row) → list_all (λ other. is_lt (by_row other row)) rows ≡ true
    → has row.file.generation (files_of row.key rows) ≡ false
none_below_row row [] below = refl
none_below_row row (other ∷ rows) below =
    let parts : (is_lt (by_row other row) ≡ true) × (list_all (λ other. is_lt (by_row other row)) rows ≡ true) = and_parts _ _ below in
    by (is_of row.key other) refl (sym (full_parts row.key row.file.generation other) ∙ none_full row other parts.0)
    (none_below_row row rows parts.1)
  where
    by : (b : Bool) → is_of row.key other ≡ b → (is_of row.key other && is_generation row.file.generation other.file) ≡ false
        → has row.file.generation (files_of row.key rows) ≡ false
        → list_any (is_generation row.file.generation) (map (λ (each : Row). each.file) (cond b (other ∷ filter (is_of row.key) rows) (filter (is_of row.key) rows))) ≡ false
    by true is none rest = rw (second_of_no_and (is_of row.key other) (is_generation row.file.generation other.file) none is) rest
    by false is none rest = rest

inserted_last : (row : Row) (rows : List Row) → list_all (λ other. is_lt (by_row other row)) rows ≡ true
    → inserted row rows ≡ rows ++ row ∷ []
inserted_last row [] below = refl
inserted_last row (other ∷ rows) below =
    let parts : (is_lt (by_row other row) ≡ true) × (list_all (λ other. is_lt (by_row other row)) rows ≡ true) = and_parts _ _ below in
    rw parts.0 (ap (λ rest. other ∷ rest) (inserted_last row rows parts.1))

front_below : (row : Row) (front rest : List Row) → is_sorted by_row (front ++ row ∷ rest) ≡ true
    → list_all (λ other. is_lt (by_row other row)) front ≡ true
front_below row [] rest sorted = refl
front_below row (other ∷ front) rest sorted =
    let parts : (all_above by_row other (front ++ row ∷ rest) ≡ true) × (is_sorted by_row (front ++ row ∷ rest) ≡ true) = and_parts _ _ sorted in
    and_from _ _ (there front parts.0) (front_below row front rest parts.1)
  where
    there : (more : List Row) → all_above by_row other (more ++ row ∷ rest) ≡ true → is_lt (by_row other row) ≡ true
    there [] above = (and_parts _ _ above).0
    there (next ∷ more) above = there more (and_parts _ _ above).1

pub record GoesLast (row : Row) (front : List Row) : Type 0 where
  pub absent : has row.file.generation (files_of row.key front) ≡ false
  pub added_is : added 0 row front ≡ front ++ row ∷ []

pub goes_last : (row : Row) (front rest whole : List Row) → ascends by_row whole ≡ true → front ++ row ∷ rest ≡ whole → GoesLast row front
goes_last row front rest whole ascend is =
    let sorted : is_sorted by_row (front ++ row ∷ rest) ≡ true =
    ap (is_sorted by_row) is ∙ sorted_ascends by_row by_row_total whole ascend in
    let below = front_below row front rest sorted in
    record { absent = none_below_row row front below; added_is = inserted_last row front below }
