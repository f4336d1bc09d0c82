-- One thing is changed of rows, or they are taken out: the rows stay those of a store.
-- A change that keeps a row's name and size is one record (Leaves), with one lemma for each thing that stays, as
-- firsts_changed.
use Rattle.std.proofs.Common.{◌≡◌, ℕ, suc, zero, ◌+◌, ◌<◌, ◌≤◌, nat_lt, ◌&&◌, Bool, true, false, not, cond, List, [], ◌∷◌, ◌++◌, append_assoc, drop, drop-cons, filter, get_or, length, length-append, map, set, take, refl, ap, arith, ◌∙◌, sym}
use Rattle.std.specs.List.{list_all}
use Rattle.std.specs.Ordering.{is_lt}
use Rattle.cm_files.specs.Catalogue.{by_bytes}
use Rattle.std.proofs.lemmas.Bool.{and_from, and_parts, lt-ltb}
use Rattle.std.proofs.lemmas.List.{length-map}
use Rattle.std.proofs.lemmas.List.Sums.{count_by-le-length, length-filter}
use Rattle.cm_lists.proofs.Quantifiers.{all_filter, all_weaker}
use Rattle.ex_generations.specs.declared.file.File.{File}
use Rattle.ex_generations.specs.declared.file.Remark.{Remark}
use Rattle.ex_generations.specs.declared.file.Remark.TheVariants as remarks
use Rattle.ex_generations.specs.Generations as generations
use Rattle.ex_store.specs.declared.directory.Directory.{Directory}
use Rattle.ex_store.specs.declared.key.FullName.{FullName}
use Rattle.ex_store.specs.declared.row.Row.{Row}
use Rattle.ex_store.specs.Positions.{all_changed_at, changed_at, positions_from}
use Rattle.ex_store.specs.Draft.{kept_by}
use Rattle.ex_store.specs.Rows.{by_full, by_row, expunged, first_in, full_of, is_in, is_short, total, with_remark}
use Rattle.ex_store.specs.State.{State, firsts_in, retention_of}
use Rattle.ex_store.specs.WellFormed.{AreRows, IsDraft, IsWellFormed, is_directory, is_remark, is_row_among, is_stamped}
use Rattle.ex_store.proofs.AllCopiedLaws.{formed, formed_is}
use Rattle.cm_lists.proofs.Ascents.{ascends_filter, ascends_map}
use Rattle.ex_store.proofs.BuiltLaws.{retention_within}
use Rattle.ex_store.proofs.TotalLaws.{total_cons}
use Rattle.ex_store.proofs.AreRowsLaws.{by_row_total}

next_one : (n : ℕ) → suc n + 1 ≡ suc (n + 1)
next_one n = omega arith

add_one : (n : ℕ) → n + 1 ≡ suc n
add_one n = omega arith

-- the element at a place is changed
changed_is_set : {X : Type 0} (change : X → X) (xs : List X) (at : ℕ) (d : X) → at < length xs
    → changed_at change xs at ≡ set xs at (change (get_or xs at d))
changed_is_set change [] at d below = absurd (omega arith)
changed_is_set change (x ∷ xs) zero d below = refl
changed_is_set change (x ∷ xs) (suc at) d below =
    rw (next_one at) (ap (λ rest. x ∷ rest) (changed_is_set change xs at d (omega arith)))

-- one place more
pub changed_more : {X : Type 0} (change : X → X) (xs : List X) (positions : List ℕ) (i at : ℕ) (d : X) → i < length positions
    → at ≡ get_or positions i 0 → at < length xs
    → all_changed_at change (set xs at (change (get_or xs at d))) (drop (i + 1) positions) ≡ all_changed_at change xs (drop i positions)
changed_more change xs positions i at d within is below =
    let first : drop i positions ≡ at ∷ drop (i + 1) positions = rw (add_one i, is) (drop-cons positions i 0 within) in
    ap (λ changed. all_changed_at change changed (drop (i + 1) positions)) (sym (changed_is_set change xs at d below))
    ∙ ap (all_changed_at change xs) (sym first)

-- the element after those that are passed is changed
changed_after : {X : Type 0} (change : X → X) (front : List X) (x : X) (xs : List X)
    → changed_at change (front ++ x ∷ xs) (length front) ≡ front ++ change x ∷ xs
changed_after change [] x xs = refl
changed_after change (y ∷ front) x xs =
    rw (next_one (length front)) (ap (λ rest. y ∷ rest) (changed_after change front x xs))

-- an element more is passed
passed : {X : Type 0} (front : List X) (x : X) (xs : List X) → (front ++ x ∷ []) ++ xs ≡ front ++ x ∷ xs
passed front x xs = append_assoc front (x ∷ []) xs

counted : {X : Type 0} (front : List X) (x : X) → length (front ++ x ∷ []) ≡ length front + 1
counted front x = length-append front (x ∷ [])

-- where the elements are changed one after the other, one more
pub changed_next : {X : Type 0} (change : X → X) (xs : List X) (i : ℕ) (d : X) → i < length xs
    → take (i + 1) (set xs i (change (get_or xs i d))) ++ map change (drop (i + 1) (set xs i (change (get_or xs i d))))
    ≡ take i xs ++ map change (drop i xs)
changed_next change [] i d within = absurd (omega arith)
changed_next change (x ∷ xs) zero d within = refl
changed_next change (x ∷ xs) (suc i) d within = rw (next_one i) (ap (λ rest. x ∷ rest) (changed_next change xs i d (omega arith)))

-- an element that passes a test is changed, and else stays
abbrev pub where_passing : {X : Type 0} → (X → Bool) → (X → X) → X → X
where_passing test change x = cond (test x) (change x) x

changed_from : {X : Type 0} (test : X → Bool) (change : X → X) (front xs : List X)
    → all_changed_at change (front ++ xs) (positions_from test (length front) xs) ≡ front ++ map (where_passing test change) xs
changed_from test change front [] = refl
changed_from test change front (x ∷ xs) =
    by (test x) (changed_from test change (front ++ change x ∷ []) xs) (changed_from test change (front ++ x ∷ []) xs)
  where
    by : (passes : Bool)
        → all_changed_at change ((front ++ change x ∷ []) ++ xs) (positions_from test (length (front ++ change x ∷ [])) xs)
        ≡ (front ++ change x ∷ []) ++ map (where_passing test change) xs
        → all_changed_at change ((front ++ x ∷ []) ++ xs) (positions_from test (length (front ++ x ∷ [])) xs)
        ≡ (front ++ x ∷ []) ++ map (where_passing test change) xs
        → all_changed_at change (front ++ x ∷ xs)
        (cond passes (length front ∷ positions_from test (length front + 1) xs) (positions_from test (length front + 1) xs))
        ≡ front ++ cond passes (change x) x ∷ map (where_passing test change) xs
    by true changed kept =
        ap (λ rows. all_changed_at change rows (positions_from test (length front + 1) xs)) (changed_after change front x xs ∙ sym (passed front (change x) xs))
        ∙ (ap (λ n. all_changed_at change ((front ++ change x ∷ []) ++ xs) (positions_from test n xs)) (sym (counted front (change x)))
        ∙ (changed ∙ passed front (change x) (map (where_passing test change) xs)))
    by false changed kept =
        ap (λ rows. all_changed_at change rows (positions_from test (length front + 1) xs)) (sym (passed front x xs))
        ∙ (ap (λ n. all_changed_at change ((front ++ x ∷ []) ++ xs) (positions_from test n xs)) (sym (counted front x))
        ∙ (kept ∙ passed front x (map (where_passing test change) xs)))

-- what passes a test is changed, and nothing else
pub changed_at_positions : {X : Type 0} (test : X → Bool) (change : X → X) (xs : List X)
    → all_changed_at change xs (positions_from test 0 xs) ≡ map (where_passing test change) xs
changed_at_positions test change xs = changed_from test change [] xs

-- each place is one of the list
positions_below : {X : Type 0} (test : X → Bool) (at : ℕ) (xs : List X) (n : ℕ) → at + length xs ≤ n
    → list_all (λ position. nat_lt position n) (positions_from test at xs) ≡ true
positions_below test at [] n within = refl
positions_below test at (x ∷ xs) n within = by (test x) (positions_below test (at + 1) xs n (omega arith))
  where
    by : (passes : Bool) → list_all (λ position. nat_lt position n) (positions_from test (at + 1) xs) ≡ true
        → list_all (λ position. nat_lt position n) (cond passes (at ∷ positions_from test (at + 1) xs) (positions_from test (at + 1) xs)) ≡ true
    by true rest = and_from _ _ (lt-ltb at n (omega arith)) rest
    by false rest = rest

pub positions_within : {X : Type 0} (test : X → Bool) (xs : List X)
    → list_all (λ position. nat_lt position (length xs)) (positions_from test 0 xs) ≡ true
positions_within test xs = positions_below test 0 xs (length xs) (omega arith)

-- as many as pass
pub length-positions_from : {X : Type 0} (test : X → Bool) (at : ℕ) (xs : List X)
    → length (positions_from test at xs) ≡ length (filter test xs)
length-positions_from test at [] = refl
length-positions_from test at (x ∷ xs) = by (test x) (length-positions_from test (at + 1) xs)
  where
    by : (passes : Bool) → length (positions_from test (at + 1) xs) ≡ length (filter test xs)
        → length (cond passes (at ∷ positions_from test (at + 1) xs) (positions_from test (at + 1) xs))
        ≡ length (cond passes (x ∷ filter test xs) (filter test xs))
    by true rest = ap suc rest
    by false rest = rest

-- what each keeps after a change, all keep
all_changed : {X : Type 0} (test : X → Bool) (change : X → X) → ((x : X) → test x ≡ true → test (change x) ≡ true) → (xs : List X)
    → list_all test xs ≡ true → list_all test (map change xs) ≡ true
all_changed test change keeps [] all = refl
all_changed test change keeps (x ∷ xs) all =
    let parts = and_parts _ _ all in
    and_from _ _ (keeps x parts.0) (all_changed test change keeps xs parts.1)

total_map_same : (change : Row → Row) → ((row : Row) → length (change row).file.bytes ≡ length row.file.bytes) → (rows : List Row)
    → total (map change rows) ≡ total rows
total_map_same change same [] = refl
total_map_same change same (row ∷ rows) =
    let rest : total (map change rows) ≡ total rows = total_map_same change same rows in
    omega (arith, total_cons (change row) (map change rows), total_cons row rows, same row)

total_filter : (keep : Row → Bool) (rows : List Row) → total (filter keep rows) ≤ total rows
total_filter keep [] = omega arith
total_filter keep (row ∷ rows) = by (keep row) (total_filter keep rows)
  where
    by : (kept : Bool) → total (filter keep rows) ≤ total rows
        → total (cond kept (row ∷ filter keep rows) (filter keep rows)) ≤ total (row ∷ rows)
    by true rest = omega (arith, total_cons row (filter keep rows), total_cons row rows)
    by false rest = omega (arith, total_cons row rows)

-- a change leaves the full name of a row, and how many bytes it has
pub record Leaves (change : Row → Row) : Type 0 where
  pub name : (row : Row) → full_of (change row) ≡ full_of row
  pub size : (row : Row) → length (change row).file.bytes ≡ length row.file.bytes

-- rows that are changed so are rows of a store
pub rows_changed : (directories : List Directory) (rows : List Row) (change : Row → Row) → Leaves change
    → ((row : Row) → is_row_among directories row ≡ true → is_row_among directories (change row) ≡ true)
    → AreRows directories rows → AreRows directories (map change rows)
rows_changed directories rows change leaves keeps are = record {
  ascend = ascends_map by_row by_row change same_order rows ∙ are.ascend;
  within = all_changed (is_row_among directories) change keeps rows are.within;
  few = omega (arith, length-map rows change, are.few);
  small = omega (arith, total_map_same change leaves.size rows, are.small);
}
  where
    same_order : (row other : Row) → by_row (change row) (change other) ≡ by_row row other
    same_order row other =
        ap (λ (full : FullName). by_full full (full_of (change other))) (leaves.name row)
        ∙ ap (λ (full : FullName). by_full (full_of row) full) (leaves.name other)

-- such a change leaves where the files of a directory begin
first_changed : (directory : List ℕ) (change : Row → Row) → Leaves change → (rows : List Row)
    → first_in directory (map change rows) ≡ first_in directory rows
first_changed directory change leaves [] = refl
first_changed directory change leaves (row ∷ rows) =
    ap (λ (full : FullName). cond (is_lt (by_bytes full.key.directory directory)) (1 + first_in directory (map change rows)) 0) (leaves.name row)
    ∙ ap (λ n. cond (is_lt (by_bytes row.key.directory directory)) (1 + n) 0) (first_changed directory change leaves rows)

pub firsts_changed : (directories : List Directory) (change : Row → Row) → Leaves change → (rows : List Row)
    → firsts_in directories rows ≡ firsts_in directories (map change rows)
firsts_changed [] change leaves rows = refl
firsts_changed (directory ∷ directories) change leaves rows =
    ap (λ n. n ∷ firsts_in directories rows) (sym (first_changed directory.name change leaves rows))
    ∙ ap (λ more. first_in directory.name (map change rows) ∷ more) (firsts_changed directories change leaves rows)

-- a remark leaves that
leaves_remark : (remark : Remark) → Leaves (with_remark remark)
leaves_remark (remarks.Deleted deleted) = record { name = λ row. refl; size = λ row. refl }
leaves_remark (remarks.Keep keep) = record { name = λ row. refl; size = λ row. refl }
leaves_remark (remarks.Read moment) = record { name = λ row. refl; size = λ row. refl }

-- so does a change of those that pass a test
leaves_passing : (test : Row → Bool) (change : Row → Row) → Leaves change → Leaves (where_passing test change)
leaves_passing test change leaves = record { name = λ row. name (test row) row; size = λ row. size (test row) row }
  where
    name : (passes : Bool) (row : Row) → full_of (cond passes (change row) row) ≡ full_of row
    name true row = leaves.name row
    name false row = refl

    size : (passes : Bool) (row : Row) → length (cond passes (change row) row).file.bytes ≡ length row.file.bytes
    size true row = leaves.size row
    size false row = refl

pub leaves_selected : (test : Row → Bool) (remark : Remark) → Leaves (where_passing test (with_remark remark))
leaves_selected test remark = leaves_passing test (with_remark remark) (leaves_remark remark)

-- a remark that may be leaves a file of a store one
remark_stamped : (remark : Remark) (file : File) → is_remark remark ≡ true → is_stamped file ≡ true
    → is_stamped (generations.with_remark remark file) ≡ true
remark_stamped (remarks.Deleted deleted) file may is = is
remark_stamped (remarks.Keep keep) file may is =
    let parts = and_parts _ _ is in
    and_from _ _ (and_from _ _ may (and_parts _ _ parts.0).1) parts.1
remark_stamped (remarks.Read moment) file may is = and_from _ _ (and_parts _ _ is).0 may

remark_formed : (directories : List Directory) (remark : Remark) (row : Row) → is_remark remark ≡ true
    → is_row_among directories row ≡ true → is_row_among directories (with_remark remark row) ≡ true
remark_formed directories (remarks.Deleted deleted) row may is = is
remark_formed directories (remarks.Keep keep) row may is =
    let parts = formed directories row is in
    formed_is directories (with_remark (remarks.Keep keep) row) (record {
      there = parts.there;
      name = parts.name;
      kind = parts.kind;
      generation = parts.generation;
      stamped = remark_stamped (remarks.Keep keep) row.file may parts.stamped;
      short = parts.short;
    })
remark_formed directories (remarks.Read moment) row may is =
    let parts = formed directories row is in
    formed_is directories (with_remark (remarks.Read moment) row) (record {
      there = parts.there;
      name = parts.name;
      kind = parts.kind;
      generation = parts.generation;
      stamped = remark_stamped (remarks.Read moment) row.file may parts.stamped;
      short = parts.short;
    })

-- rows of which one thing is changed are rows of a store
pub rows_of_remark : (directories : List Directory) (rows : List Row) (test : Row → Bool) (remark : Remark) → is_remark remark ≡ true
    → AreRows directories rows → AreRows directories (map (where_passing test (with_remark remark)) rows)
rows_of_remark directories rows test remark may are =
    rows_changed directories rows (where_passing test (with_remark remark)) (leaves_selected test remark) keeps are
  where
    by : (passes : Bool) (row : Row) → is_row_among directories row ≡ true → is_row_among directories (cond passes (with_remark remark row) row) ≡ true
    by true row is = remark_formed directories remark row may is
    by false row is = is

    keeps : (row : Row) → is_row_among directories row ≡ true → is_row_among directories (where_passing test (with_remark remark) row) ≡ true
    keeps row is = by (test row) row is

-- rows that keep as many generations as their directories are rows of a store
pub rows_kept_by : (directories : List Directory) (rows : List Row) → list_all is_directory directories ≡ true
    → AreRows directories rows → AreRows directories (map (kept_by directories) rows)
rows_kept_by directories rows within are =
    rows_changed directories rows (kept_by directories) (record { name = λ row. refl; size = λ row. refl }) keeps are
  where
    keeps : (row : Row) → is_row_among directories row ≡ true → is_row_among directories (kept_by directories row) ≡ true
    keeps row is =
        remark_formed directories (remarks.Keep (retention_of row.key.directory directories)) row (retention_within row.key.directory directories within) is

-- rows that are left are rows of a store
pub rows_left : (directories : List Directory) (rows : List Row) (keep : Row → Bool) → AreRows directories rows
    → AreRows directories (filter keep rows)
rows_left directories rows keep are = record {
  ascend = ascends_filter by_row by_row_total keep rows are.ascend;
  within = all_filter (is_row_among directories) keep rows are.within;
  few = omega (arith, length-filter keep rows, count_by-le-length keep rows, are.few);
  small = omega (arith, total_filter keep rows, are.small);
}

-- a file of a store has no more bytes than one may have
pub row_short : (directories : List Directory) (row : Row) → is_row_among directories row ≡ true → is_short row ≡ true
row_short directories row is = (and_parts _ _ is).1

pub rows_short : (directories : List Directory) (rows : List Row) → AreRows directories rows → list_all is_short rows ≡ true
rows_short directories rows are = all_weaker (is_row_among directories) is_short (λ row is. (and_parts _ _ is).1) rows are.within

pub draft_with_rows : (state : State) (rows : List Row) → IsDraft state → AreRows state.directories rows
    → IsDraft (record state { rows = rows })
draft_with_rows state rows draft are = record {
  directories_ascend = draft.directories_ascend;
  directories_within = draft.directories_within;
  few_directories = draft.few_directories;
  logical_ascend = draft.logical_ascend;
  logical_within = draft.logical_within;
  few_logical = draft.few_logical;
  rows = are;
  queue_within = draft.queue_within;
  few_entries = draft.few_entries;
}

pub well_formed_with_rows : (state : State) (rows : List Row) → IsWellFormed state → AreRows state.directories rows
    → IsWellFormed (record state { rows = rows })
well_formed_with_rows state rows well are =
    record { draft = draft_with_rows state rows well.draft are; connected_there = well.connected_there }

-- the rows that are changed are those that pass
pub changed_rows : (test : Row → Bool) (remark : Remark) (rows before after : List Row) (given positions : List ℕ) → before ≡ rows
    → given ≡ positions → positions ≡ positions_from test 0 rows → after ≡ all_changed_at (with_remark remark) before given
    → after ≡ map (where_passing test (with_remark remark)) rows
changed_rows test remark rows before after given positions same told found changed =
    rw (changed, told, found, same) (changed_at_positions test (with_remark remark) rows)

pub positions_fit : (test : Row → Bool) (rows before : List Row) (given positions : List ℕ) → before ≡ rows → given ≡ positions
    → positions ≡ positions_from test 0 rows → list_all (λ at. nat_lt at (length before)) given ≡ true
positions_fit test rows before given positions same told found = rw (told, found, same) (positions_within test rows)

pub rows_expunged : (directories : List Directory) (directory : List ℕ) (rows : List Row) → AreRows directories rows
    → AreRows directories (expunged directory rows)
rows_expunged directories directory rows = rows_left directories rows (λ row. not (is_in directory row && row.file.deleted))
