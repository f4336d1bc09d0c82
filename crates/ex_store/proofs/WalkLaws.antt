-- The files that a place selects, among the rows of its directory.
-- That a directory which is not there has no rows (lacks_rows) find_directory says.
use Rattle.std.proofs.Common.{◌≡◌, ℕ, zero, suc, ◌+◌, ◌<◌, ◌≤◌, Bool, true, false, ◌&&◌, cond, List, [], ◌∷◌, ◌++◌, length, map, filter, drop, Some, None, refl, ap, arith, ◌∙◌, sym}
use Rattle.std.specs.List.{list_all, position_from}
use Rattle.std.specs.Cmp.{Equal-is}
use Rattle.std.proofs.lemmas.Bool.{and_parts, both_ways}
use Rattle.std.proofs.lemmas.List.{append-nil, append_assoc, drop-drop, drop-map, length-append, length-drop}
use Rattle.std.proofs.lemmas.Map.Lookups.{exact_bytes}
use Rattle.cm_lists.proofs.Places.{block_within}
use Rattle.cm_lists.proofs.Quantifiers.{all_kept, all_weaker}
use Rattle.cm_files.specs.declared.row.FileRow.{FileRow}
use Rattle.cm_files.specs.Catalogue.{by_bytes, rows_of}
use Rattle.cm_files.specs.Selection.{Wanted, is_selected}
use Rattle.ex_store.specs.declared.directory.Directory.{Directory}
use Rattle.ex_store.specs.declared.place.Place.{Place}
use Rattle.ex_store.specs.declared.row.Row.{Row}
use Rattle.ex_store.specs.Positions.{positions_from}
use Rattle.ex_store.specs.Rows.{end_in, first_in, is_in, rows_in}
use Rattle.ex_store.specs.Selection.{is_selected_by, wanted_of}
use Rattle.ex_store.specs.State.{State, catalogue_of, file_row, has_directory, number_of}
use Rattle.ex_store.specs.WellFormed.{IsWellFormed, is_row_among}
use Rattle.ex_store.proofs.CatalogueLaws.{directory_there}
use Rattle.ex_store.proofs.RowsInLaws.{block, positions_within, rows_by_number, rows_of_catalogue}

position_map : {X Y : Type 0} (test : Y → Bool) (f : X → Y) (at : ℕ) (xs : List X)
    → position_from test at (map f xs) ≡ position_from (λ x. test (f x)) at xs
position_map test f at [] = refl
position_map test f at (x ∷ xs) = ap (cond (test (f x)) (Some at)) (position_map test f (at + 1) xs)

position_same : {X : Type 0} (inside test other : X → Bool) → ((x : X) → inside x ≡ true → test x ≡ other x) → (at : ℕ) (xs : List X)
    → list_all inside xs ≡ true → position_from test at xs ≡ position_from other at xs
position_same inside test other same at [] all = refl
position_same inside test other same at (x ∷ xs) all =
    let parts = and_parts _ _ all in
    ap (λ is. cond is (Some at) (position_from test (at + 1) xs)) (same x parts.0)
    ∙ ap (cond (other x) (Some at)) (position_same inside test other same (at + 1) xs parts.1)

all_drop : {X : Type 0} (test : X → Bool) (n : ℕ) (xs : List X) → list_all test xs ≡ true → list_all test (drop n xs) ≡ true
all_drop test zero [] all = refl
all_drop test zero (x ∷ xs) all = all
all_drop test (suc n) [] all = refl
all_drop test (suc n) (x ∷ xs) all = all_drop test n xs (and_parts _ _ all).1

-- of the rows of its directory, a place selects those that the catalogue selects
selected_inside : (deleted : Bool) (place : Place) (state : State) (row : Row) → is_in place.directory row ≡ true
    → is_selected (wanted_of deleted place) (map (file_row state.directories) (rows_in place.directory state.rows))
    (file_row state.directories row)
    ≡ is_selected_by deleted place state row
unfolding is_selected_by
selected_inside deleted place state row is =
    sym (ap (λ inside. inside && is_selected (wanted_of deleted place) (map (file_row state.directories) (rows_in place.directory state.rows)) (file_row state.directories row)) is)

-- and none of another directory
pub selected_in : (deleted : Bool) (place : Place) (state : State) (row : Row) → is_selected_by deleted place state row ≡ true
    → is_in place.directory row ≡ true
unfolding is_selected_by
selected_in deleted place state row is = (and_parts _ _ is).0

-- all rows that a place selects are in its directory
pub all_selected_in : (deleted : Bool) (place : Place) (state : State) (rows : List Row)
    → list_all (is_in place.directory) (filter (is_selected_by deleted place state) rows) ≡ true
all_selected_in deleted place state rows =
    all_weaker (is_selected_by deleted place state) (is_in place.directory) (selected_in deleted place state) (filter (is_selected_by deleted place state) rows) (all_kept (is_selected_by deleted place state) rows)

-- a walk over the catalogue's rows of the directory finds the first that is meant
pub walk_selected : (state : State) → IsWellFormed state → (deleted : Bool) (place : Place) (from n : ℕ) (w : Wanted)
    → has_directory place.directory state.directories ≡ true → n ≡ number_of place.directory state.directories
    → w ≡ wanted_of deleted place
    → position_from (is_selected w (rows_of (catalogue_of state) n)) from (drop from (rows_of (catalogue_of state) n))
    ≡ position_from (is_selected_by deleted place state) from (drop from (rows_in place.directory state.rows))
walk_selected state well deleted place from n w there number same =
    let f = file_row state.directories in
    let inside = rows_in place.directory state.rows in
    let rows : rows_of (catalogue_of state) n ≡ map f inside =
    ap (rows_of (catalogue_of state)) number ∙ rows_of_catalogue state (number_of place.directory state.directories)
    ∙ ap (map f) (rows_by_number state well place.directory there) in
    ap (λ (each : List FileRow). position_from (is_selected w each) from (drop from each)) rows
    ∙ ap (λ (each : Wanted). position_from (is_selected each (map f inside)) from (drop from (map f inside))) same
    ∙ ap (position_from (is_selected (wanted_of deleted place) (map f inside)) from) (drop-map f from inside)
    ∙ position_map (is_selected (wanted_of deleted place) (map f inside)) f from (drop from inside)
    ∙ position_same (is_in place.directory) (λ row. is_selected (wanted_of deleted place) (map f inside) (f row))
    (is_selected_by deleted place state) (selected_inside deleted place state) from (drop from inside)
    (all_drop (is_in place.directory) from inside (all_kept (is_in place.directory) state.rows))

-- a directory that is looked for: its number, where it is there
pub found_there : (name : List ℕ) (directories : List Directory) (n : ℕ)
    → Some n ≡ cond (has_directory name directories) (Some (number_of name directories)) None
    → (has_directory name directories ≡ true) × (n ≡ number_of name directories)
found_there name directories n told = by (has_directory name directories) refl told
  where
    by : (there : Bool) → has_directory name directories ≡ there → Some n ≡ cond there (Some (number_of name directories)) None
        → (has_directory name directories ≡ true) × (n ≡ number_of name directories)
    by true is told = (is, cc)
    by false is told = absurd (cc)

pub not_there : (name : List ℕ) (directories : List Directory)
    → None ≡ cond (has_directory name directories) (Some (number_of name directories)) None
    → has_directory name directories ≡ false
not_there name directories told = by (has_directory name directories) refl told
  where
    by : (there : Bool) → has_directory name directories ≡ there → None ≡ cond there (Some (number_of name directories)) None
        → has_directory name directories ≡ false
    by true is told = absurd (cc)
    by false is told = is

-- where there is no such directory it has no rows, and none is meant
pub lacks_rows : (directories : List Directory) (name : List ℕ) → has_directory name directories ≡ false → (rows : List Row)
    → list_all (is_row_among directories) rows ≡ true → rows_in name rows ≡ []
lacks_rows directories name lacks [] all = refl
lacks_rows directories name lacks (row ∷ rows) all =
    let parts = and_parts _ _ all in
    by (is_in name row) refl (directory_there directories row parts.0) (lacks_rows directories name lacks rows parts.1)
  where
    by : (inside : Bool) → is_in name row ≡ inside → has_directory row.key.directory directories ≡ true
        → rows_in name rows ≡ [] → cond inside (row ∷ rows_in name rows) (rows_in name rows) ≡ []
    by true is there rest =
        let same = exact_bytes row.key.directory name ((Equal-is (by_bytes row.key.directory name)).0 is) in
        absurd (both_ways _ lacks (ap (λ each. has_directory each directories) (sym same) ∙ there))
    by false is there rest = rest

-- where the first of a list is that passes, and the positions after it
record Found {X : Type 0} (test : X → Bool) (at : ℕ) (xs : List X) (i : ℕ) : Type 0 where
  passed : ℕ
  is : i ≡ at + passed
  within : passed < length xs
  all : (first : ℕ) → positions_from test (first + at) xs ≡ (first + i) ∷ positions_from test (first + (i + 1)) (drop (suc passed) xs)

found : {X : Type 0} (test : X → Bool) (at : ℕ) (xs : List X) (i : ℕ) → position_from test at xs ≡ Some i → Found test at xs i
found test at [] i is = absurd (cc)
found {X} test at (x ∷ xs) i is = by (test x) refl is (λ later. found test (at + 1) xs i later)
  where
    by : (passes : Bool) → test x ≡ passes → cond passes (Some at) (position_from test (at + 1) xs) ≡ Some i
        → (position_from test (at + 1) xs ≡ Some i → Found test (at + 1) xs i) → Found test at (x ∷ xs) i
    by true passes is rest =
        let same : at ≡ i = cc in
        record {
          passed = 0;
          is = omega arith;
          within = omega arith;
          all = λ first.
              let next : first + at + 1 ≡ first + (i + 1) = omega arith in
              let here : first + at ≡ first + i = omega arith in
              ap (λ b. cond b ((first + at) ∷ positions_from test (first + at + 1) xs) (positions_from test (first + at + 1) xs)) passes
              ∙ ap (λ (k : ℕ). (first + at) ∷ positions_from test k xs) next
              ∙ ap (λ (k : ℕ). k ∷ positions_from test (first + (i + 1)) xs) here;
        }
    by false passes is rest =
        let later = rest is in
        let place = later.is in
        let inside = later.within in
        record {
          passed = suc later.passed;
          is = omega arith;
          within = omega arith;
          all = λ first.
              let next : first + at + 1 ≡ first + (at + 1) = omega arith in
              ap (λ b. cond b ((first + at) ∷ positions_from test (first + at + 1) xs) (positions_from test (first + at + 1) xs)) passes
              ∙ ap (λ (k : ℕ). positions_from test k xs) next
              ∙ later.all first;
        }

found_none : {X : Type 0} (test : X → Bool) (at : ℕ) (xs : List X) → position_from test at xs ≡ None → (first : ℕ)
    → positions_from test first xs ≡ []
found_none test at [] is first = refl
found_none {X} test at (x ∷ xs) is first = by (test x) is (λ later. found_none test (at + 1) xs later (first + 1))
  where
    by : (passes : Bool) → cond passes (Some at) (position_from test (at + 1) xs) ≡ None
        → (position_from test (at + 1) xs ≡ None → positions_from test (first + 1) xs ≡ [])
        → cond passes (first ∷ positions_from test (first + 1) xs) (positions_from test (first + 1) xs) ≡ []
    by true is rest = absurd (cc)
    by false is rest = rest is

-- the walk that collects the positions of what passes, of a list that is after so many others
pub record Collects {X : Type 0} (test : X → Bool) (first : ℕ) (xs : List X) (items : List ℕ) (from : ℕ) : Type 0 where
  pub walk : items ++ positions_from test (first + from) (drop from xs) ≡ positions_from test first xs
  pub few : length items ≤ from
  pub within : from ≤ length xs

pub collects_none : {X : Type 0} (test : X → Bool) (first : ℕ) (xs : List X) (items : List ℕ) → items ≡ []
    → Collects test first xs items 0
collects_none test first xs items none =
    let start : first + 0 ≡ first = omega arith in
    let size = ap length none in
    record {
      walk = ap (λ front. front ++ positions_from test (first + 0) xs) none ∙ ap (λ (k : ℕ). positions_from test k xs) start;
      few = omega arith;
      within = omega arith;
    }

pub collects_within : {X : Type 0} (test : X → Bool) (first : ℕ) (xs : List X) (items : List ℕ) (from i : ℕ)
    → Collects test first xs items from → Some i ≡ position_from test from (drop from xs)
    → (from ≤ i) × (i < length xs)
collects_within test first xs items from i so_far is =
    let next = found test from (drop from xs) i (sym is) in
    let place = next.is in
    let inside = next.within in
    let rest = length-drop from xs in
    (omega arith, omega arith)

pub collects_more : {X : Type 0} (test : X → Bool) (first : ℕ) (xs : List X) (items more : List ℕ) (from i : ℕ)
    → Collects test first xs items from → Some i ≡ position_from test from (drop from xs) → more ≡ items ++ (first + i) ∷ []
    → Collects test first xs more (i + 1)
collects_more test first xs items more from i so_far is pushed =
    let next = found test from (drop from xs) i (sym is) in
    let place = next.is in
    let bounds = collects_within test first xs items from i so_far is in
    let low = bounds.0 in
    let high = bounds.1 in
    let few = so_far.few in
    let size = ap length pushed in
    let sizes = length-append items ((first + i) ∷ []) in
    let same : from + suc next.passed ≡ i + 1 = omega arith in
    let left : drop (suc next.passed) (drop from xs) ≡ drop (i + 1) xs =
    drop-drop (suc next.passed) from xs ∙ ap (λ (k : ℕ). drop k xs) same in
    let after = positions_from test (first + (i + 1)) (drop (i + 1) xs) in
    record {
      walk = ap (λ front. front ++ after) pushed
          ∙ append_assoc items ((first + i) ∷ []) after
          ∙ ap (λ rest. items ++ ((first + i) ∷ positions_from test (first + (i + 1)) rest)) (sym left)
          ∙ ap (λ rest. items ++ rest) (sym (next.all first))
          ∙ so_far.walk;
      few = omega arith;
      within = omega arith;
    }

pub collects_all : {X : Type 0} (test : X → Bool) (first : ℕ) (xs : List X) (items : List ℕ) (from : ℕ)
    → Collects test first xs items from → None ≡ position_from test from (drop from xs) → items ≡ positions_from test first xs
collects_all test first xs items from so_far is =
    sym (ap (λ rest. items ++ rest) (found_none test from (drop from xs) (sym is) (first + from)) ∙ append-nil items)
    ∙ so_far.walk

-- the positions of what a place selects, among the rows of its directory and among all
pub positions_selected : (state : State) → IsWellFormed state → (deleted : Bool) (place : Place)
    → positions_from (is_selected_by deleted place state) 0 state.rows
    ≡ positions_from (is_selected_by deleted place state) (first_in place.directory state.rows) (rows_in place.directory state.rows)
positions_selected state well deleted place =
    positions_within (is_selected_by deleted place state) (is_in place.directory) (selected_in deleted place state) state.rows
    (rows_in place.directory state.rows) (first_in place.directory state.rows) (end_in place.directory state.rows)
    (block place.directory state.rows well.draft.rows.ascend)

-- without such a directory there are none
pub nowhere_selected : (state : State) → IsWellFormed state → (deleted : Bool) (place : Place)
    → rows_in place.directory state.rows ≡ [] → positions_from (is_selected_by deleted place state) 0 state.rows ≡ []
nowhere_selected state well deleted place none =
    positions_selected state well deleted place
    ∙ ap (positions_from (is_selected_by deleted place state) (first_in place.directory state.rows)) none

-- and they are few
pub block_few : (state : State) → IsWellFormed state → (directory : List ℕ)
    → first_in directory state.rows + length (rows_in directory state.rows) ≤ 4096
block_few state well directory =
    let bounds = block_within (is_in directory) state.rows (rows_in directory state.rows) (first_in directory state.rows)
    (end_in directory state.rows) (block directory state.rows well.draft.rows.ascend) in
    let start = bounds.0 in
    let last = bounds.1 in
    let few = well.draft.rows.few in
    omega arith
