-- What is told of all files, family by family, and what is done with those of one directory.
use Rattle.std.proofs.Common.{◌≡◌, ℕ, ◌+◌, ◌*◌, ◌<◌, ◌≤◌, ◌==◌, ◌&&◌, nat_le, Bool, true, false, not, cond, zero, suc, List, [], ◌∷◌, ◌++◌, length, drop, filter, get_or, map, refl, ap, sym, ◌∙◌, arith}
use Rattle.std.proofs.lemmas.List.{map-append}
use Rattle.std.proofs.lemmas.List.Elements.{filter-append}
use Rattle.std.specs.List.{list_all}
use Rattle.std.specs.Ordering.{is_eq}
use Rattle.std.proofs.lemmas.Bool.{and_from, and_parts, leb-true}
use Rattle.std.proofs.lemmas.List.{drop_more}
use Rattle.std.proofs.lemmas.Bool.Decides.{nat_tests}
use Rattle.std.proofs.lemmas.List.Sums.{count_by-le-length, length-filter, sum_by-append, sum_by-cons}
use Rattle.cm_lists.proofs.Numbers.{suc_is_not_zero}
use Rattle.cm_lists.specs.Ascent.{ascends}
use Rattle.cm_files.specs.Catalogue.{by_bytes}
use Rattle.ex_generations.specs.declared.file.File.{File}
use Rattle.ex_generations.specs.declared.file.TheConstants.{FILE_LIMIT}
use Rattle.ex_generations.specs.Generations.{marked, page_count, pages, unmarked}
use Rattle.ex_store.specs.declared.family.Family.{Family}
use Rattle.ex_store.specs.declared.key.Key.{Key}
use Rattle.ex_store.specs.declared.limits.TheConstants.{ROW_LIMIT}
use Rattle.ex_store.specs.declared.row.Row.{Row}
use Rattle.ex_store.specs.Families.{by_family, bytes_of, is_under_directory, rooms_of, row_under, rows_of, rows_under}
use Rattle.ex_store.specs.Rows.{by_key, expunged, is_in, is_short, pages_in, pages_marked, total}
use Rattle.cm_lists.proofs.Ascents.{ascends_filter, ascends_map}
use Rattle.ex_store.proofs.FamiliesLaws.{by_name_total}
use Rattle.ex_store.proofs.FileNumbersLaws.{length_more}

-- bytes
total_own : (key : Key) (own : List File) → total (map (row_under key) own) ≡ bytes_of own
total_own key [] = refl
total_own key (file ∷ own) =
    sum_by-cons (λ (row : Row). length row.file.bytes) (row_under key file) (map (row_under key) own)
    ∙ ap (λ n. length file.bytes + n) (total_own key own)
    ∙ sym (sum_by-cons (λ (it : File). length it.bytes) file own)

pub total_more : (family : Family) (families : List Family) → total (rows_of (family ∷ families)) ≡ bytes_of family.gens.files + total (rows_of families)
total_more family families =
    sum_by-append (λ (row : Row). length row.file.bytes) (rows_under family) (rows_of families)
    ∙ ap (λ n. n + total (rows_of families)) (total_own family.key family.gens.files)

-- families without files
abbrev pub has_files : Family → Bool
has_files family = not (length family.gens.files == 0)

pub rows_filled : (families : List Family) → rows_of (filter has_files families) ≡ rows_of families
rows_filled [] = refl
rows_filled (family ∷ families) = by family.gens.files refl (rows_filled families)
  where
    by : (own : List File) → family.gens.files ≡ own → rows_of (filter has_files families) ≡ rows_of families
        → rows_of (cond (not (length family.gens.files == 0)) (family ∷ filter has_files families) (filter has_files families)) ≡ rows_under family ++ rows_of families
    by [] is rest = rw is rest
    by (file ∷ own) is rest = rw (is, suc_is_not_zero (length own)) (ap (λ more. map (row_under family.key) (file ∷ own) ++ more) rest)

-- each family that is left has a file
pub few_filled : (families : List Family) → length (filter has_files families) ≤ length (rows_of families)
few_filled [] = omega arith
few_filled (family ∷ families) = by (has_files family) refl (few_filled families)
  where
    by : (b : Bool) → has_files family ≡ b → length (filter has_files families) ≤ length (rows_of families)
        → length (cond b (family ∷ filter has_files families) (filter has_files families)) ≤ length (rows_of (family ∷ families))
    by true is rest =
        let some : 1 ≤ length family.gens.files = grind (arith, nat_tests) in
        omega (arith, rest, some, length_more family families)
    by false is rest = omega (arith, rest, length_more family families)

pub ascends_filled : (families : List Family) → ascends by_family families ≡ true → ascends by_family (filter has_files families) ≡ true
ascends_filled families ascend = ascends_filter by_family by_name_total has_files families ascend

-- the files of a directory are expunged
abbrev pub swept : List ℕ → Family → Family
swept directory family =
    cond (is_under_directory directory family) (record family { gens = record family.gens { files = unmarked family.gens.files } }) family

own_kept : (directory : List ℕ) (key : Key) (own : List File) → is_eq (by_bytes key.directory directory) ≡ true
    → map (row_under key) (unmarked own) ≡ expunged directory (map (row_under key) own)
own_kept directory key [] is = refl
own_kept directory key (file ∷ own) is = rw is (by file.deleted (own_kept directory key own is))
  where
    by : (b : Bool) → map (row_under key) (unmarked own) ≡ expunged directory (map (row_under key) own)
        → map (row_under key) (cond (not b) (file ∷ unmarked own) (unmarked own))
        ≡ cond (not (true && b)) (row_under key file ∷ expunged directory (map (row_under key) own)) (expunged directory (map (row_under key) own))
    by true rest = rest
    by false rest = ap (λ more. row_under key file ∷ more) rest

own_apart : (directory : List ℕ) (key : Key) (own : List File) → is_eq (by_bytes key.directory directory) ≡ false
    → map (row_under key) own ≡ expunged directory (map (row_under key) own)
own_apart directory key [] is = refl
own_apart directory key (file ∷ own) is = rw is (ap (λ more. row_under key file ∷ more) (own_apart directory key own is))

pub rows_swept : (directory : List ℕ) (families : List Family) → rows_of (map (swept directory) families) ≡ expunged directory (rows_of families)
rows_swept directory [] = refl
rows_swept directory (family ∷ families) =
    ap (λ own. own ++ rows_of (map (swept directory) families)) (by (is_under_directory directory family) refl)
    ∙ ap (λ rest. expunged directory (rows_under family) ++ rest) (rows_swept directory families)
    ∙ sym (filter-append (λ (row : Row). not (is_in directory row && row.file.deleted)) (rows_under family) (rows_of families))
  where
    by : (b : Bool) → is_under_directory directory family ≡ b
        → rows_under (cond b (record family { gens = record family.gens { files = unmarked family.gens.files } }) family)
        ≡ expunged directory (rows_under family)
    by true is = own_kept directory family.key family.gens.files is
    by false is = own_apart directory family.key family.gens.files is

pub keys_swept : (directory : List ℕ) (families : List Family)
    → map (λ (family : Family). family.key) (map (swept directory) families) ≡ map (λ (family : Family). family.key) families
keys_swept directory [] = refl
keys_swept directory (family ∷ families) = ap (λ rest. rest) (by (is_under_directory directory family) (keys_swept directory families))
  where
    by : (b : Bool) → map (λ (family : Family). family.key) (map (swept directory) families) ≡ map (λ (family : Family). family.key) families
        → (cond b (record family { gens = record family.gens { files = unmarked family.gens.files } }) family).key
        ∷ map (λ (family : Family). family.key) (map (swept directory) families) ≡ family.key ∷ map (λ (family : Family). family.key) families
    by true rest = ap (λ more. family.key ∷ more) rest
    by false rest = ap (λ more. family.key ∷ more) rest

-- pages
few_pages : (bytes : ℕ) → bytes ≤ FILE_LIMIT → page_count bytes ≤ 26
few_pages bytes short = omega arith

pages_join : (xs ys : List File) → pages (xs ++ ys) ≡ pages xs + pages ys
pages_join xs ys = sum_by-append (λ (file : File). page_count (length file.bytes)) xs ys

pages_marked_join : (directory : List ℕ) (xs ys : List Row)
    → pages_marked directory (xs ++ ys) ≡ pages_marked directory xs + pages_marked directory ys
pages_marked_join directory xs ys =
    ap (λ (it : List Row). pages (map (λ (row : Row). row.file) it)) (filter-append (λ (row : Row). is_in directory row && row.file.deleted) xs ys)
    ∙ ap pages (map-append (λ (row : Row). row.file) (filter (λ (row : Row). is_in directory row && row.file.deleted) xs) (filter (λ (row : Row). is_in directory row && row.file.deleted) ys))
    ∙ pages_join (map (λ (row : Row). row.file) (filter (λ (row : Row). is_in directory row && row.file.deleted) xs))
    (map (λ (row : Row). row.file) (filter (λ (row : Row). is_in directory row && row.file.deleted) ys))

own_pages : (directory : List ℕ) (key : Key) (own : List File) → is_eq (by_bytes key.directory directory) ≡ true
    → pages_marked directory (map (row_under key) own) ≡ pages (marked own)
own_pages directory key [] is = refl
own_pages directory key (file ∷ own) is = rw is (by file.deleted (own_pages directory key own is))
  where
    by : (b : Bool) → pages_marked directory (map (row_under key) own) ≡ pages (marked own)
        → pages (map (λ (row : Row). row.file) (cond (true && b) (row_under key file ∷ filter (λ (row : Row). is_in directory row && row.file.deleted) (map (row_under key) own)) (filter (λ (row : Row). is_in directory row && row.file.deleted) (map (row_under key) own))))
        ≡ pages (cond b (file ∷ marked own) (marked own))
    by true rest =
        sum_by-cons (λ (it : File). page_count (length it.bytes)) file
        (map (λ (row : Row). row.file) (filter (λ (row : Row). is_in directory row && row.file.deleted) (map (row_under key) own)))
        ∙ ap (λ n. page_count (length file.bytes) + n) rest
        ∙ sym (sum_by-cons (λ (it : File). page_count (length it.bytes)) file (marked own))
    by false rest = rest

own_no_pages : (directory : List ℕ) (key : Key) (own : List File) → is_eq (by_bytes key.directory directory) ≡ false
    → pages_marked directory (map (row_under key) own) ≡ 0
own_no_pages directory key [] is = refl
own_no_pages directory key (file ∷ own) is = rw is (own_no_pages directory key own is)

-- what a family of the directory counts for, and another
pub pages_own : (directory : List ℕ) (family : Family) (families : List Family) → is_under_directory directory family ≡ true
    → pages_marked directory (rows_of (family ∷ families)) ≡ pages (marked family.gens.files) + pages_marked directory (rows_of families)
pages_own directory family families is =
    pages_marked_join directory (rows_under family) (rows_of families)
    ∙ ap (λ n. n + pages_marked directory (rows_of families)) (own_pages directory family.key family.gens.files is)

pub pages_other : (directory : List ℕ) (family : Family) (families : List Family) → is_under_directory directory family ≡ false
    → pages_marked directory (rows_of (family ∷ families)) ≡ pages_marked directory (rows_of families)
pages_other directory family families is =
    pages_marked_join directory (rows_under family) (rows_of families)
    ∙ ap (λ n. n + pages_marked directory (rows_of families)) (own_no_pages directory family.key family.gens.files is)
    ∙ omega arith

pub pages_within : (directory : List ℕ) (rows : List Row) → list_all is_short rows ≡ true → pages_marked directory rows ≤ 26 * length rows
pages_within directory [] short = omega arith
pages_within directory (row ∷ rows) short =
    let parts : (is_short row ≡ true) × (list_all is_short rows ≡ true) = and_parts _ _ short in
    by (is_in directory row && row.file.deleted) (few_pages (length row.file.bytes) (leb-true _ _ parts.0)) (pages_within directory rows parts.1)
  where
    by : (b : Bool) → page_count (length row.file.bytes) ≤ 26 → pages_marked directory rows ≤ 26 * length rows
        → pages (map (λ (it : Row). it.file) (cond b (row ∷ filter (λ (it : Row). is_in directory it && it.file.deleted) rows) (filter (λ (it : Row). is_in directory it && it.file.deleted) rows)))
        ≤ 26 * suc (length rows)
    by true few rest =
        omega (arith, few, rest, sum_by-cons (λ (it : File). page_count (length it.bytes)) row.file (map (λ (it : Row). it.file) (filter (λ (it : Row). is_in directory it && it.file.deleted) rows)))
    by false few rest = omega (arith, rest)

-- the pages of a directory, family by family
pages_in_join : (directory : List ℕ) (xs ys : List Row) → pages_in directory (xs ++ ys) ≡ pages_in directory xs + pages_in directory ys
pages_in_join directory xs ys =
    ap (λ (it : List Row). pages (map (λ (row : Row). row.file) it)) (filter-append (is_in directory) xs ys)
    ∙ ap pages (map-append (λ (row : Row). row.file) (filter (is_in directory) xs) (filter (is_in directory) ys))
    ∙ pages_join (map (λ (row : Row). row.file) (filter (is_in directory) xs)) (map (λ (row : Row). row.file) (filter (is_in directory) ys))

own_in : (directory : List ℕ) (key : Key) (own : List File) → is_eq (by_bytes key.directory directory) ≡ true
    → pages_in directory (map (row_under key) own) ≡ pages own
own_in directory key [] is = refl
own_in directory key (file ∷ own) is =
    rw is
    (sum_by-cons (λ (it : File). page_count (length it.bytes)) file (map (λ (row : Row). row.file) (filter (is_in directory) (map (row_under key) own)))
    ∙ ap (λ n. page_count (length file.bytes) + n) (own_in directory key own is)
    ∙ sym (sum_by-cons (λ (it : File). page_count (length it.bytes)) file own))

own_not_in : (directory : List ℕ) (key : Key) (own : List File) → is_eq (by_bytes key.directory directory) ≡ false
    → pages_in directory (map (row_under key) own) ≡ 0
own_not_in directory key [] is = refl
own_not_in directory key (file ∷ own) is = rw is (own_not_in directory key own is)

in_within : (directory : List ℕ) (rows : List Row) → list_all is_short rows ≡ true → pages_in directory rows ≤ 26 * length rows
in_within directory [] short = omega arith
in_within directory (row ∷ rows) short =
    let parts : (is_short row ≡ true) × (list_all is_short rows ≡ true) = and_parts _ _ short in
    by (is_in directory row) (few_pages (length row.file.bytes) (leb-true _ _ parts.0)) (in_within directory rows parts.1)
  where
    by : (b : Bool) → page_count (length row.file.bytes) ≤ 26 → pages_in directory rows ≤ 26 * length rows
        → pages (map (λ (it : Row). it.file) (cond b (row ∷ filter (is_in directory) rows) (filter (is_in directory) rows))) ≤ 26 * suc (length rows)
    by true few rest =
        omega (arith, few, rest, sum_by-cons (λ (it : File). page_count (length it.bytes)) row.file (map (λ (it : Row). it.file) (filter (is_in directory) rows)))
    by false few rest = omega (arith, rest)

short_own : (key : Key) (own : List File) (more : List Row) → list_all is_short (map (row_under key) own ++ more) ≡ true
    → (list_all (λ file. nat_le (length file.bytes) FILE_LIMIT) own ≡ true) × (list_all is_short more ≡ true)
short_own key [] more short = (refl, short)
short_own key (file ∷ own) more short =
    let parts : (nat_le (length file.bytes) FILE_LIMIT ≡ true) × (list_all is_short (map (row_under key) own ++ more) ≡ true) = and_parts _ _ short in
    let rest = short_own key own more parts.1 in
    (and_from _ _ parts.0 rest.0, rest.1)

short_at : (families : List Family) (i : ℕ) (d : Family) → i < length families → list_all is_short (rows_of families) ≡ true
    → list_all (λ file. nat_le (length file.bytes) FILE_LIMIT) (get_or families i d).gens.files ≡ true
short_at [] i d within short = absurd (omega arith)
short_at (family ∷ families) zero d within short = (short_own family.key family.gens.files (rows_of families) short).0
short_at (family ∷ families) (suc i) d within short =
    short_at families i d (omega arith) (short_own family.key family.gens.files (rows_of families) short).1

-- one turn over the families
pub record IsTurn (directory : List ℕ) (families : List Family) (i : ℕ) (item : Family) : Type 0 where
  pub passed : is_under_directory directory item ≡ false
      → pages_in directory (rows_of (drop i families)) ≡ pages_in directory (rows_of (drop (i + 1) families))
  pub counted : is_under_directory directory item ≡ true
      → pages_in directory (rows_of (drop i families)) ≡ pages item.gens.files + pages_in directory (rows_of (drop (i + 1) families))
  pub short : list_all (λ file. nat_le (length file.bytes) FILE_LIMIT) item.gens.files ≡ true
  pub most : pages_in directory (rows_of families) ≤ 26 * length (rows_of families)

pub is_turn : (directory : List ℕ) (families : List Family) (i : ℕ) (item : Family) → i < length families → item ≡ get_or families i item
    → list_all is_short (rows_of families) ≡ true → IsTurn directory families i item
is_turn directory families i item within is short =
    let split = ap (λ (it : List Family). pages_in directory (rows_of it))
    (drop_more families i item within ∙ ap (λ (it : Family). it ∷ drop (i + 1) families) (sym is))
    ∙ pages_in_join directory (rows_under item) (rows_of (drop (i + 1) families)) in
    record {
      passed = λ other. split ∙ ap (λ n. n + pages_in directory (rows_of (drop (i + 1) families))) (own_not_in directory item.key item.gens.files other) ∙ omega arith;
      counted = λ own. split ∙ ap (λ n. n + pages_in directory (rows_of (drop (i + 1) families))) (own_in directory item.key item.gens.files own);
      short = ap (λ (it : Family). list_all (λ (file : File). nat_le (length file.bytes) FILE_LIMIT) it.gens.files) is ∙ short_at families i item within short;
      most = in_within directory (rows_of families) short;
    }

pub rooms_swept : (directory : List ℕ) (families : List Family) → rooms_of (map (swept directory) families) ≡ rooms_of families
rooms_swept directory [] = refl
rooms_swept directory (family ∷ families) = by (is_under_directory directory family) (rooms_swept directory families)
  where
    by : (b : Bool) → rooms_of (map (swept directory) families) ≡ rooms_of families
        → rooms_of (cond b (record family { gens = record family.gens { files = unmarked family.gens.files } }) family ∷ map (swept directory) families) ≡ rooms_of (family ∷ families)
    by true rest = ap (λ more. record { key = family.key; room = family.gens.room } ∷ more) rest
    by false rest = ap (λ more. record { key = family.key; room = family.gens.room } ∷ more) rest

pub ascends_swept : (directory : List ℕ) (families : List Family) → ascends by_family families ≡ true → ascends by_family (map (swept directory) families) ≡ true
ascends_swept directory families ascend =
    sym (ascends_map by_key by_family (λ (family : Family). family.key) (λ x y. refl) (map (swept directory) families))
    ∙ ap (ascends by_key) (keys_swept directory families)
    ∙ ascends_map by_key by_family (λ (family : Family). family.key) (λ x y. refl) families
    ∙ ascend

-- what is left is no more than there was
pub few_left : (directory : List ℕ) (rows left : List Row) → left ≡ expunged directory rows → length rows ≤ ROW_LIMIT → length left ≤ ROW_LIMIT
few_left directory rows left is few =
    let test = λ (row : Row). not (is_in directory row && row.file.deleted) in
    omega (arith, ap (λ (it : List Row). length it) is, few, length-filter test rows, count_by-le-length test rows)
