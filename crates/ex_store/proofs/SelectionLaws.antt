-- The files that a place selects are found one after the other.
-- A Selection is a list by its Model, and an Iterator by YieldsFirstBy: next asks one private call of the store, which
-- has the invariant (IsNext).
use Rattle.std.proofs.Common.{◌≡◌, ℕ, zero, suc, ◌+◌, ◌<◌, ◌≤◌, Bool, true, false, cond, List, [], ◌∷◌, length, drop, filter, slice_get, Option, Some, None, refl, ap, arith, ◌∙◌, sym}
use Rattle.std.specs.List.{list_all, position_from}
use Rattle.std.proofs.lemmas.List.{drop-drop}
use Rattle.std.proofs.lemmas.List.Sums.{count_by-le-length, length-filter}
use Rattle.std.proofs.lemmas.Option.{slice_get_within}
use Rattle.cm_lists.proofs.Elements.{slice_get-drop}
use Rattle.cm_lists.proofs.Filters.{filter_within}
use Rattle.cm_lists.proofs.Positions.{filter_of_no_position}
use Rattle.cm_lists.proofs.Quantifiers.{all_filter}
use Rattle.ex_store.specs.declared.limits.TheConstants.{ROW_LIMIT}
use Rattle.ex_store.specs.declared.place.Place.{Place}
use Rattle.ex_store.specs.declared.row.Row.{Row}
use Rattle.ex_store.specs.Rows.{is_in, rows_in}
use Rattle.ex_store.specs.Selection.{IsNumber, is_selected_by, selected, selected_from}
use Rattle.ex_store.specs.State.{State, has_directory, number_of, rows_numbered}
use Rattle.ex_store.specs.WellFormed.{IsWellFormed, is_row_among}
use Rattle.ex_store.proofs.WalkLaws.{block_few, found_there, lacks_rows, selected_in, not_there}
use Rattle.ex_store.proofs.RowsInLaws.{rows_by_number}

-- from the first on they are all that a place selects
pub selected_all : (deleted : Bool) (place : Place) (state : State) → selected_from deleted place state 0 ≡ selected deleted place state
selected_all deleted place state =
    filter_within (is_selected_by deleted place state) (is_in place.directory) (selected_in deleted place state) state.rows

-- they are rows of the store, and not more than all
pub selected_lawful : (deleted : Bool) (place : Place) (state : State) → IsWellFormed state
    → list_all (is_row_among state.directories) (selected_from deleted place state 0) ≡ true
selected_lawful deleted place state well =
    ap (list_all (is_row_among state.directories)) (selected_all deleted place state)
    ∙ all_filter (is_row_among state.directories) (is_selected_by deleted place state) state.rows well.draft.rows.within

pub selected_few : (deleted : Bool) (place : Place) (state : State) → IsWellFormed state
    → length (selected_from deleted place state 0) ≤ ROW_LIMIT
selected_few deleted place state well =
    let all = ap length (selected_all deleted place state) in
    let size = length-filter (is_selected_by deleted place state) state.rows in
    let fewer = count_by-le-length (is_selected_by deleted place state) state.rows in
    let few = well.draft.rows.few in
    omega arith

-- the first of a list that passes
record IsFirst {X : Type 0} (test : X → Bool) (at : ℕ) (xs : List X) (i : ℕ) : Type 0 where
  x : X
  passed : ℕ
  is : i ≡ at + passed
  there : slice_get xs passed ≡ Some x
  rest : filter test xs ≡ x ∷ filter test (drop (passed + 1) xs)

first : {X : Type 0} (test : X → Bool) (at : ℕ) (xs : List X) (i : ℕ) → position_from test at xs ≡ Some i → IsFirst test at xs i
first test at [] i is = absurd (cc)
first {X} test at (x ∷ xs) i is = by (test x) refl is (λ later. first test (at + 1) xs i later)
  where
    by : (passes : Bool) → test x ≡ passes → cond passes (Some at) (position_from test (at + 1) xs) ≡ Some i
        → (position_from test (at + 1) xs ≡ Some i → IsFirst test (at + 1) xs i) → IsFirst test at (x ∷ xs) i
    by true passes is rest =
        let same : at ≡ i = cc in
        record { x = x; passed = 0; is = omega arith; there = refl; rest = rw passes refl }
    by false passes is rest =
        let later = rest is in
        let place = later.is in
        let next : suc (later.passed + 1) ≡ suc later.passed + 1 = omega arith in
        record {
          x = later.x;
          passed = suc later.passed;
          is = omega arith;
          there = later.there;
          rest = rw passes (later.rest ∙ ap (λ (k : ℕ). later.x ∷ filter test (drop k (x ∷ xs))) next);
        }

-- what a walk over the rows finds is the first of them, or there is filter_of_no_position
pub next_none : (deleted : Bool) (place : Place) (state : State) (from : ℕ)
    → None ≡ position_from (is_selected_by deleted place state) from (drop from (rows_in place.directory state.rows))
    → selected_from deleted place state from ≡ []
next_none deleted place state from is = filter_of_no_position (is_selected_by deleted place state) from _ (sym is)

-- where the first of them stands, among the rows of its directory
pub next_within : (deleted : Bool) (place : Place) (state : State) → IsWellFormed state → (from at n : ℕ)
    → Some at ≡ position_from (is_selected_by deleted place state) from (drop from (rows_in place.directory state.rows))
    → has_directory place.directory state.directories ≡ true → n ≡ number_of place.directory state.directories
    → at < length (rows_numbered n state)
next_within deleted place state well from at n is there number =
    let rows = rows_in place.directory state.rows in
    let next = first (is_selected_by deleted place state) from (drop from rows) at (sym is) in
    let within = slice_get_within rows at next.x
    (ap (slice_get rows) next.is ∙ sym (slice_get-drop from rows next.passed) ∙ next.there) in
    let same = ap length (ap (λ k. rows_numbered k state) number ∙ rows_by_number state well place.directory there) in
    omega arith

pub next_some : (deleted : Bool) (place : Place) (state : State) → IsWellFormed state → (from at n : ℕ) (row : Row)
    → Some at ≡ position_from (is_selected_by deleted place state) from (drop from (rows_in place.directory state.rows))
    → has_directory place.directory state.directories ≡ true → n ≡ number_of place.directory state.directories
    → slice_get (rows_numbered n state) at ≡ Some row
    → (selected_from deleted place state from ≡ row ∷ selected_from deleted place state (at + 1)) × (at < ROW_LIMIT)
next_some deleted place state well from at n row is there number read =
    let test = is_selected_by deleted place state in
    let rows = rows_in place.directory state.rows in
    let next = first test from (drop from rows) at (sym is) in
    let place_is = next.is in
    let same : from + (next.passed + 1) ≡ at + 1 = omega arith in
    let found : slice_get rows at ≡ Some next.x =
    ap (slice_get rows) place_is ∙ sym (slice_get-drop from rows next.passed) ∙ next.there in
    let numbered : rows_numbered n state ≡ rows =
    ap (λ k. rows_numbered k state) number ∙ rows_by_number state well place.directory there in
    let told : slice_get rows at ≡ Some row = ap (λ each. slice_get each at) (sym numbered) ∙ read in
    let row_is : next.x ≡ row = (let both = sym found ∙ told in cc) in
    let within = slice_get_within rows at row told in
    let few = block_few state well place.directory in (
      next.rest
          ∙ ap (λ more. next.x ∷ filter test more)
          (drop-drop (next.passed + 1) from rows ∙ ap (λ (k : ℕ). drop k rows) same)
          ∙ ap (λ x. x ∷ selected_from deleted place state (at + 1)) row_is,
      omega arith,
    )

-- what is told of a directory that is looked for
pub is_number : (state : State) → IsWellFormed state → (name : List ℕ) (found : Option ℕ)
    → found ≡ cond (has_directory name state.directories) (Some (number_of name state.directories)) None
    → IsNumber name state found
is_number state well name None is =
    lacks_rows state.directories name (not_there name state.directories is)
    state.rows well.draft.rows.within
is_number state well name (Some n) is = found_there name state.directories n is

-- a walk without rows has filter_of_no_position left
pub none_left : (deleted : Bool) (place : Place) (state : State) (from : ℕ) → rows_in place.directory state.rows ≡ []
    → selected_from deleted place state from ≡ []
none_left deleted place state from none =
    ap (λ (rows : List Row). filter (is_selected_by deleted place state) (drop from rows)) none ∙ nothing from
  where
    nothing : (n : ℕ) → filter (is_selected_by deleted place state) (drop {A = Row} n []) ≡ []
    nothing zero = refl
    nothing (suc n) = refl

-- and filter_of_no_position is found
pub none_found : (deleted : Bool) (place : Place) (state : State) (from : ℕ) → rows_in place.directory state.rows ≡ []
    → None ≡ position_from (is_selected_by deleted place state) from (drop from (rows_in place.directory state.rows))
none_found deleted place state from none =
    sym (ap (λ (rows : List Row). position_from (is_selected_by deleted place state) from (drop from rows)) none ∙ nowhere from)
  where
    nowhere : (n : ℕ) → position_from (is_selected_by deleted place state) from (drop {A = Row} n []) ≡ None
    nowhere zero = refl
    nowhere (suc n) = refl
