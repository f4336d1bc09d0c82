-- The sources that a plan takes one after the other, by their places among the rows.
-- The code walks over positions, which elements_filter makes the filter; source_at is one turn of the walk.
use Rattle.std.proofs.Common.{◌≡◌, ℕ, ◌+◌, ◌<◌, nat_lt, Bool, true, false, cond, List, [], ◌∷◌, ◌++◌, drop, filter, get_or, slice_get, length, length-append, append_assoc, Some, refl, ap, ◌∙◌, sym}
use Rattle.std.specs.List.{list_all}
use Rattle.cm_lists.proofs.Elements.{slice_get_at, slice_get_some}
use Rattle.cm_lists.proofs.Quantifiers.{all_below}
use Rattle.ex_store.specs.declared.row.Row.{Row}
use Rattle.ex_store.specs.Positions.{elements_at, positions_from}
use Rattle.ex_store.proofs.ElementsLaws.{elements_more}

-- the source that a walk over places comes to
pub record IsSource (rows : List Row) (positions : List ℕ) (i : ℕ) (row : Row) : Type 0 where
  pub there : (at : ℕ) × (slice_get rows at ≡ Some row)
  pub more : elements_at rows (drop i positions) ≡ row ∷ elements_at rows (drop (i + 1) positions)

pub source_at : (rows : List Row) (positions : List ℕ) (i at : ℕ) (row : Row) → list_all (λ (at : ℕ). nat_lt at (length rows)) positions ≡ true
    → i < length positions → at ≡ get_or positions i 0 → row ≡ get_or rows at row
    → IsSource rows positions i row
source_at rows positions i at row all within is_at is_row =
    let inside = all_below positions (length rows) i at all within is_at in
    record {
      there = (at, slice_get_some rows at row inside is_row);
      more = elements_more rows positions i at row within is_at inside
          ∙ ap (λ (first : Row). first ∷ elements_at rows (drop (i + 1) positions)) (sym is_row);
    }

-- the elements at the places of those that pass are those that pass
elements_after : {X : Type 0} (test : X → Bool) (front : List X) (xs : List X)
    → elements_at (front ++ xs) (positions_from test (length front) xs) ≡ filter test xs
elements_after test front [] = refl
elements_after test front (x ∷ xs) =
    by (test x) (rw (moved, ← longer) (elements_after test (front ++ x ∷ []) xs))
  where
    moved : front ++ x ∷ xs ≡ (front ++ x ∷ []) ++ xs
    moved = sym (append_assoc front (x ∷ []) xs)

    longer : length (front ++ x ∷ []) ≡ length front + 1
    longer = length-append front (x ∷ [])

    here : slice_get (front ++ x ∷ xs) (length front) ≡ Some x
    here = slice_get_at x xs front

    by : (b : Bool) → elements_at (front ++ x ∷ xs) (positions_from test (length front + 1) xs) ≡ filter test xs
        → elements_at (front ++ x ∷ xs) (cond b (length front ∷ positions_from test (length front + 1) xs) (positions_from test (length front + 1) xs))
        ≡ cond b (x ∷ filter test xs) (filter test xs)
    by true rest = rw here (ap (λ more. x ∷ more) rest)
    by false rest = rest

pub elements_filter : {X : Type 0} (test : X → Bool) (xs : List X) → elements_at xs (positions_from test 0 xs) ≡ filter test xs
elements_filter test xs = elements_after test [] xs
