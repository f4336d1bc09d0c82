-- The rows of one directory are together.
-- The rows of a directory, key or name are the middle of three parts (rises_sorted and parts_of of cm_lists).
use Rattle.std.proofs.Common.{◌≡◌, ℕ, zero, suc, ◌+◌, ◌<◌, ◌≤◌, Bool, true, false, not, ◌||◌, ◌==◌, cond, List, [], ◌∷◌, ◌++◌, length, map, slice_get, Some, None, Option, option_map, refl, ap, arith, ◌∙◌, sym, subst}
use Rattle.std.specs.List.{list_all}
use Rattle.std.specs.Ordering.{is_eq, is_gt, is_lt, nat_cmp, ordering_reverse}
use Rattle.std.specs.declared.cmp.Ordering.{Ordering}
use Rattle.std.specs.declared.cmp.Ordering.TheVariants.{Less, Equal, Greater}
use Rattle.std.proofs.lemmas.Bool.{and_from, and_parts, eqb-true}
use Rattle.std.proofs.lemmas.Cmp.{nat_list_cmp_total}
use Rattle.std.proofs.lemmas.List.{append-nil, length-map}
use Rattle.std.proofs.lemmas.Option.{slice_get-map}
use Rattle.std.proofs.lemmas.Slice.Eq.{bytes_eq-Decides}
use Rattle.std.proofs.lemmas.Map.Lookups.{exact_bytes}
use Rattle.cm_lists.proofs.Ascents.{all_above, is_sorted}
use Rattle.cm_lists.proofs.Filters.{filter-map, filter_same}
use Rattle.cm_lists.proofs.Numbers.{eq-nat_cmp}
use Rattle.cm_lists.proofs.Orders.{is_lt-true, then_not_gt}
use Rattle.cm_lists.proofs.Places.{Parts, block_at, block_within, follows_itself, may_follow, parts_of, rises}
use Rattle.cm_lists.proofs.Quantifiers.{all_at, all_kept}
use Rattle.cm_files.specs.declared.row.FileRow.{FileRow}
use Rattle.cm_lists.specs.Ascent.{ascends}
use Rattle.cm_files.specs.Catalogue.{by_bytes, rows_of}
use Rattle.cm_files.proofs.RowOrder.{text_itself}
use Rattle.ex_store.specs.declared.directory.Directory.{Directory}
use Rattle.ex_store.specs.declared.row.Row.{Row}
use Rattle.ex_store.specs.Positions.{positions_from}
use Rattle.ex_store.specs.Building.{by_directory}
use Rattle.ex_store.specs.Rows.{by_row, end_in, first_in, is_in, rows_in}
use Rattle.ex_store.specs.State.{State, catalogue_of, file_row, has_directory, is_named, number_of, rows_numbered}
use Rattle.ex_store.specs.WellFormed.{IsWellFormed, is_row_among}
use Rattle.cm_lists.proofs.Ascents.{sorted_ascends}
use Rattle.ex_store.proofs.BuiltLaws.{by_directory_total}
use Rattle.ex_store.proofs.CatalogueLaws.{below_name, directory_there, named, number_order}
use Rattle.ex_store.proofs.AreRowsLaws.{by_row_total}

-- the order of directories in that of rows
text_follows : (text first second : List ℕ) → is_gt (by_bytes first second) ≡ false
    → may_follow (by_bytes first text) (by_bytes second text) ≡ true
text_follows text first second not_above =
    by (by_bytes first second) refl not_above (by_bytes first text) refl
  where
    by : (o : Ordering) → by_bytes first second ≡ o → is_gt o ≡ false → (a : Ordering) → by_bytes first text ≡ a
        → may_follow a (by_bytes second text) ≡ true
    by Equal same not_above a is =
        let texts : first ≡ second = exact_bytes first second same in
        let places : by_bytes second text ≡ a = ap (λ each. by_bytes each text) (sym texts) ∙ is in
        rw places (follows_itself a)
    by Less less not_above Less is = refl
    by Less less not_above Equal is =
        let texts : first ≡ text = exact_bytes first text is in
        let below : by_bytes text second ≡ Less = subst (λ each. by_bytes each second ≡ Less) texts less in
        let after = nat_list_cmp_total.antisymm second text ∙ ap ordering_reverse below in
        ap (λ (o : Ordering). not (is_lt o)) after
    by Less less not_above Greater is =
        let below : by_bytes text first ≡ Less = nat_list_cmp_total.antisymm text first ∙ ap ordering_reverse is in
        let far = nat_list_cmp_total.trans text first second below less in
        let after = nat_list_cmp_total.antisymm second text ∙ ap ordering_reverse far in
        ap is_gt after
    by Greater more not_above a is = absurd (cc)

follows_rows : (directory : List ℕ) (row : Row) (rows : List Row) → all_above by_row row rows ≡ true
    → list_all (λ other. may_follow (by_bytes row.key.directory directory) (by_bytes other.key.directory directory)) rows ≡ true
follows_rows directory row [] above = refl
follows_rows directory row (other ∷ rows) above =
    let parts = and_parts _ _ above in
    and_from _ _
    (text_follows directory row.key.directory other.key.directory
    (then_not_gt (by_bytes row.key.directory other.key.directory) (by_bytes row.key.name other.key.name)
    (by_bytes row.key.kind other.key.kind) (nat_cmp row.file.generation other.file.generation) (is_lt-true _ parts.0)))
    (follows_rows directory row rows parts.1)

sorted_rises : (directory : List ℕ) (rows : List Row) → is_sorted by_row rows ≡ true
    → rises (λ row. by_bytes row.key.directory directory) rows ≡ true
sorted_rises directory [] sorted = refl
sorted_rises directory (row ∷ rows) sorted =
    let parts = and_parts _ _ sorted in
    and_from _ _ (follows_rows directory row rows parts.0) (sorted_rises directory rows parts.1)

pub directories_rise : (directory : List ℕ) (rows : List Row) → ascends by_row rows ≡ true
    → rises (λ row. by_bytes row.key.directory directory) rows ≡ true
directories_rise directory rows ascend = sorted_rises directory rows (sorted_ascends by_row by_row_total rows ascend)

-- the rows of a directory are together
pub block : (directory : List ℕ) (rows : List Row) → ascends by_row rows ≡ true
    → Parts (is_in directory) rows (rows_in directory rows) (first_in directory rows) (end_in directory rows)
block directory rows ascend = parts_of (λ row. by_bytes row.key.directory directory) rows (directories_rise directory rows ascend)

-- a directory by its number
pub number_at : (directories : List Directory) (n : ℕ) (directory : Directory) → is_sorted by_directory directories ≡ true
    → slice_get directories n ≡ Some directory
    → (has_directory directory.name directories ≡ true) × (number_of directory.name directories ≡ n)
number_at [] n directory sorted is = absurd (cc)
number_at (first ∷ directories) zero directory sorted is =
    let same : first ≡ directory = cc in
    let named : is_named directory.name first ≡ true =
    (bytes_eq-Decides first.name directory.name).1 (ap (λ (each : Directory). each.name) same) in
    by (is_named directory.name first) named
  where
    by : (here : Bool) → here ≡ true
        → ((here || has_directory directory.name directories) ≡ true)
        × (cond (not here) (1 + number_of directory.name directories) 0 ≡ 0)
    by true is = (refl, refl)
    by false is = absurd (cc)
number_at (first ∷ directories) (suc n) directory sorted is =
    let parts = and_parts _ _ sorted in
    let rest = number_at directories n directory parts.1 is in
    let below = below_name first directories directory.name parts.0 rest.0 in
    by (is_named directory.name first) refl below rest
  where
    by : (here : Bool) → is_named directory.name first ≡ here → by_bytes first.name directory.name ≡ Less
        → (has_directory directory.name directories ≡ true) × (number_of directory.name directories ≡ n)
        → ((here || has_directory directory.name directories) ≡ true)
        × (cond (not here) (1 + number_of directory.name directories) 0 ≡ suc n)
    by true is below rest =
        let same = ap (λ name. by_bytes name directory.name) (named directory.name first is) ∙ text_itself directory.name in
        absurd (cc)
    by false is below rest = let last = rest.1 in (rest.0, omega arith)

-- the rows of a directory's number are those of its name
pub rows_by_number : (state : State) → IsWellFormed state → (name : List ℕ)
    → has_directory name state.directories ≡ true
    → rows_numbered (number_of name state.directories) state ≡ rows_in name state.rows
rows_by_number state well name there =
    let sorted = sorted_ascends by_directory by_directory_total state.directories well.draft.directories_ascend in
    filter_same (is_row_among state.directories)
    (λ row. number_of row.key.directory state.directories == number_of name state.directories) (is_in name)
    (λ row is.
    eq-nat_cmp (number_of row.key.directory state.directories) (number_of name state.directories)
    ∙ ap is_eq (number_order state.directories row.key.directory name sorted (directory_there state.directories row is) there))
    state.rows well.draft.rows.within

pub rows_at_number : (state : State) → IsWellFormed state → (n : ℕ) (directory : Directory)
    → slice_get state.directories n ≡ Some directory → rows_numbered n state ≡ rows_in directory.name state.rows
rows_at_number state well n directory is =
    let sorted = sorted_ascends by_directory by_directory_total state.directories well.draft.directories_ascend in
    let number = number_at state.directories n directory sorted is in
    subst (λ (k : ℕ). rows_numbered k state ≡ rows_in directory.name state.rows) number.1
    (rows_by_number state well directory.name number.0)

pub rows_of_catalogue : (state : State) (n : ℕ)
    → rows_of (catalogue_of state) n ≡ map (file_row state.directories) (rows_numbered n state)
rows_of_catalogue state n = filter-map (λ row. row.directory == n) (file_row state.directories) state.rows

-- the positions of what passes, among the rows of a directory
positions_append : {X : Type 0} (test : X → Bool) (at : ℕ) (front more : List X)
    → positions_from test at (front ++ more) ≡ positions_from test at front ++ positions_from test (at + length front) more
positions_append test at [] more = ap (λ (k : ℕ). positions_from test k more) (omega arith)
positions_append {X} test at (x ∷ front) more =
    let next : at + 1 + length front ≡ at + suc (length front) = omega arith in
    by (test x) (positions_append test (at + 1) front more
    ∙ ap (λ (k : ℕ). positions_from test (at + 1) front ++ positions_from test k more) next)
  where
    by : (is : Bool)
        → positions_from test (at + 1) (front ++ more)
        ≡ positions_from test (at + 1) front ++ positions_from test (at + suc (length front)) more
        → cond is (at ∷ positions_from test (at + 1) (front ++ more)) (positions_from test (at + 1) (front ++ more))
        ≡ cond is (at ∷ positions_from test (at + 1) front) (positions_from test (at + 1) front)
        ++ positions_from test (at + suc (length front)) more
    by true rest = ap (λ all. at ∷ all) rest
    by false rest = rest

positions_none : {X : Type 0} (test inside : X → Bool) → ((x : X) → test x ≡ true → inside x ≡ true) → (at : ℕ) (xs : List X)
    → list_all (λ x. not (inside x)) xs ≡ true → positions_from test at xs ≡ []
positions_none test inside only at [] all = refl
positions_none {X} test inside only at (x ∷ xs) all =
    by (test x) refl (and_parts _ _ all).0 (positions_none test inside only (at + 1) xs (and_parts _ _ all).1)
  where
    by : (is : Bool) → test x ≡ is → not (inside x) ≡ true → positions_from test (at + 1) xs ≡ []
        → cond is (at ∷ positions_from test (at + 1) xs) (positions_from test (at + 1) xs) ≡ []
    by true is out rest = let in_it = only x is in let turned = ap not in_it in absurd (cc)
    by false is out rest = rest

pub positions_within : {X : Type 0} (test inside : X → Bool) → ((x : X) → test x ≡ true → inside x ≡ true)
    → (xs middle : List X) (first after : ℕ) → Parts inside xs middle first after
    → positions_from test 0 xs ≡ positions_from test first middle
positions_within test inside only xs middle first after parts =
    let start : 0 + length parts.lower ≡ first = (let e = parts.starts in omega arith) in
    let e1 = positions_append test 0 parts.lower (middle ++ parts.upper) in
    let e2 = positions_none test inside only 0 parts.lower parts.below in
    let e3 = positions_append test first middle parts.upper in
    let e4 = positions_none test inside only (first + length middle) parts.upper parts.above in
    ap (positions_from test 0) parts.whole ∙ e1
    ∙ ap (λ front. front ++ positions_from test (0 + length parts.lower) (middle ++ parts.upper)) e2
    ∙ ap (λ (k : ℕ). positions_from test k (middle ++ parts.upper)) start
    ∙ e3 ∙ ap (λ more. positions_from test first middle ++ more) e4 ∙ append-nil (positions_from test first middle)

-- the rows of the directory with a number, by its name
pub rows_of_name : (state : State) → IsWellFormed state → (n : ℕ) (name : List ℕ)
    → option_map (λ directory. directory.name) (slice_get state.directories n) ≡ Some name
    → rows_numbered n state ≡ rows_in name state.rows
rows_of_name state well n name is = by (slice_get state.directories n) refl is
  where
    by : (found : Option Directory) → slice_get state.directories n ≡ found
        → option_map (λ directory. directory.name) found ≡ Some name → rows_numbered n state ≡ rows_in name state.rows
    by None there is = absurd (cc)
    by (Some directory) there is =
        let same : directory.name ≡ name = cc in
        rows_at_number state well n directory there ∙ ap (λ each. rows_in each state.rows) same

-- where a row of the directory with a number stands
pub row_in_stands : (state : State) → IsWellFormed state → (i at : ℕ) (name : List ℕ) (rows : List Row)
    → i < length (rows_in name state.rows) → at ≡ first_in name state.rows → rows ≡ state.rows
    → (at + i < length rows) × (slice_get (rows_in name state.rows) i ≡ slice_get rows (at + i)) × (at + i < 4096)
row_in_stands state well i at name rows within first items =
    let parts = block name state.rows well.draft.rows.ascend in
    let bounds = block_within (is_in name) state.rows (rows_in name state.rows) (first_in name state.rows) (end_in name state.rows) parts in
    let start = bounds.0 in
    let last = bounds.1 in
    let few = well.draft.rows.few in
    let all = ap length items in (
      omega arith,
      block_at (is_in name) state.rows (rows_in name state.rows) (first_in name state.rows) (end_in name state.rows) parts i within
          ∙ ap (λ (k : ℕ). slice_get state.rows (k + i)) (sym first) ∙ ap (λ each. slice_get each (at + i)) (sym items),
      omega arith,
    )

-- the same by the number of the directory
pub row_stands : (state : State) → IsWellFormed state → (n i at : ℕ) (rows : List Row)
    → option_map (λ directory. first_in directory.name state.rows) (slice_get state.directories n) ≡ Some at
    → i < length (rows_numbered n state) → rows ≡ state.rows
    → (at + i < length rows) × (slice_get (rows_numbered n state) i ≡ slice_get rows (at + i)) × (at + i < 4096)
row_stands state well n i at rows first within items = by (slice_get state.directories n) refl first
  where
    by : (found : Option Directory) → slice_get state.directories n ≡ found
        → option_map (λ directory. first_in directory.name state.rows) found ≡ Some at
        → (at + i < length rows) × (slice_get (rows_numbered n state) i ≡ slice_get rows (at + i)) × (at + i < 4096)
    by None there first = absurd (cc)
    by (Some directory) there first =
        let here : first_in directory.name state.rows ≡ at = cc in
        let same = rows_at_number state well n directory there in
        let sizes = ap length same in
        let stands = row_in_stands state well i at directory.name rows (omega arith) (sym here) items in
        (stands.0, ap (λ each. slice_get each i) same ∙ stands.1, stands.2)

-- how many rows the directory with a number has
pub rows_counted : (state : State) → IsWellFormed state → (n : ℕ) (name : List ℕ)
    → option_map (λ directory. directory.name) (slice_get state.directories n) ≡ Some name
    → (end_in name state.rows ≡ first_in name state.rows + length (rows_of (catalogue_of state) n))
    × (end_in name state.rows ≤ 4096)
rows_counted state well n name is =
    let same = rows_of_name state well n name is in
    let parts = block name state.rows well.draft.rows.ascend in
    let bounds = block_within (is_in name) state.rows (rows_in name state.rows) (first_in name state.rows) (end_in name state.rows) parts in
    let first = bounds.0 in
    let last = bounds.1 in
    let few = well.draft.rows.few in
    let sizes = ap length same in
    let catalogue = ap length (rows_of_catalogue state n) in
    let mapped = length-map (rows_numbered n state) (file_row state.directories) in
    (omega arith, omega arith)

-- a row by its number, as the catalogue has it
pub catalogue_row : (state : State) (n i : ℕ) (row : Row) → slice_get (rows_numbered n state) i ≡ Some row
    → (name kind : List ℕ) → name ≡ row.key.name → kind ≡ row.key.kind
    → slice_get (rows_of (catalogue_of state) n) i
    ≡ Some (record { directory = n; name = name; kind = kind; generation = row.file.generation; deleted = row.file.deleted })
catalogue_row state n i row at name kind names kinds =
    let keep = λ (each : Row). number_of each.key.directory state.directories == n in
    let number : number_of row.key.directory state.directories ≡ n =
    eqb-true _ _ (all_at keep (rows_numbered n state) i row (all_kept keep state.rows) at) in
    let first = λ (k : ℕ). let made : FileRow = record { directory = k; name = row.key.name; kind = row.key.kind; generation = row.file.generation; deleted = row.file.deleted } in Some made in
    let second = λ (text : List ℕ). let made : FileRow = record { directory = n; name = text; kind = row.key.kind; generation = row.file.generation; deleted = row.file.deleted } in Some made in
    let third = λ (text : List ℕ). let made : FileRow = record { directory = n; name = name; kind = text; generation = row.file.generation; deleted = row.file.deleted } in Some made in
    ap (λ rows. slice_get rows i) (rows_of_catalogue state n)
    ∙ slice_get-map (file_row state.directories) (rows_numbered n state) i
    ∙ ap (option_map (file_row state.directories)) at
    ∙ ap first number ∙ ap second (sym names) ∙ ap third (sym kinds)

-- how many rows the catalogue has of a directory
pub catalogue_rows : (state : State) (n : ℕ) → length (rows_of (catalogue_of state) n) ≡ length (rows_numbered n state)
catalogue_rows state n =
    ap length (rows_of_catalogue state n) ∙ length-map (rows_numbered n state) (file_row state.directories)

-- the same, by where its files begin and end
pub rows_between : (state : State) → IsWellFormed state → (n first end : ℕ)
    → option_map (λ directory. first_in directory.name state.rows) (slice_get state.directories n) ≡ Some first
    → option_map (λ directory. end_in directory.name state.rows) (slice_get state.directories n) ≡ Some end
    → (end ≡ first + length (rows_of (catalogue_of state) n)) × (end ≤ 4096)
rows_between state well n first end starts ends = by (slice_get state.directories n) refl starts ends
  where
    by : (found : Option Directory) → slice_get state.directories n ≡ found
        → option_map (λ directory. first_in directory.name state.rows) found ≡ Some first
        → option_map (λ directory. end_in directory.name state.rows) found ≡ Some end
        → (end ≡ first + length (rows_of (catalogue_of state) n)) × (end ≤ 4096)
    by None there starts ends = absurd (cc)
    by (Some directory) there starts ends =
        let counts = rows_counted state well n directory.name (ap (option_map (λ (each : Directory). each.name)) there) in
        let whole = counts.0 in
        let few = counts.1 in
        let start : first_in directory.name state.rows ≡ first = cc in
        let last : end_in directory.name state.rows ≡ end = cc in
        (omega arith, omega arith)
