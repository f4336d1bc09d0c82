-- The families of two directories, with their files without their bytes.
use Rattle.std.proofs.Common.{◌≡◌, ℕ, ◌+◌, ◌<◌, ◌||◌, Bool, true, false, List, [], ◌∷◌, ◌++◌, length, drop, get_or, map, refl, ap, sym, ◌∙◌, append_assoc, append-nil}
use Rattle.std.proofs.lemmas.List.{map-append}
use Rattle.std.proofs.lemmas.List.Elements.{filter-append}
use Rattle.std.specs.List.{list_all}
use Rattle.std.specs.Ordering.{is_eq, is_lt}
use Rattle.std.proofs.lemmas.Bool.{and_from, and_parts}
use Rattle.std.proofs.lemmas.List.{drop_more}
use Rattle.cm_lists.proofs.Ascents.{is_sorted}
use Rattle.cm_lists.specs.Ascent.{ascends}
use Rattle.cm_files.specs.Catalogue.{by_bytes}
use Rattle.ex_generations.specs.declared.file.File.{File}
use Rattle.ex_generations.specs.Generations as generations
use Rattle.ex_store.specs.declared.family.Family.{Family}
use Rattle.ex_store.specs.declared.key.Key.{Key}
use Rattle.ex_store.specs.declared.row.Row.{Row}
use Rattle.ex_store.specs.Families.{by_family, is_under_either, row_under, rows_of, rows_under}
use Rattle.ex_store.specs.Rows.{blank, by_key, is_in_either, rows_in_either}
use Rattle.cm_lists.proofs.Ascents.{ascends_map, ascends_sorted, sorted_ascends}
use Rattle.ex_store.proofs.AreRowsLaws.{by_key_total}

pub blank_under : (key : Key) (own : List File) → map (row_under key) (map generations.blank own) ≡ map blank (map (row_under key) own)
blank_under key [] = refl
blank_under key (file ∷ own) = ap (λ rest. row_under key (generations.blank file) ∷ rest) (blank_under key own)

own_inside : (from to : List ℕ) (key : Key) (own : List File)
    → (is_eq (by_bytes key.directory from) || is_eq (by_bytes key.directory to)) ≡ true
    → rows_in_either from to (map (row_under key) own) ≡ map (row_under key) own
own_inside from to key [] is = refl
own_inside from to key (file ∷ own) is = rw is (ap (λ rest. row_under key file ∷ rest) (own_inside from to key own is))

own_outside : (from to : List ℕ) (key : Key) (own : List File)
    → (is_eq (by_bytes key.directory from) || is_eq (by_bytes key.directory to)) ≡ false
    → rows_in_either from to (map (row_under key) own) ≡ []
own_outside from to key [] is = refl
own_outside from to key (file ∷ own) is = rw is (own_outside from to key own is)

pub name_inside : (from to : List ℕ) (family : Family) (families : List Family) → is_under_either from to family ≡ true
    → map blank (rows_in_either from to (rows_of (family ∷ families))) ≡ map blank (rows_under family) ++ map blank (rows_in_either from to (rows_of families))
name_inside from to family families is =
    ap (map blank) (filter-append (is_in_either from to) (rows_under family) (rows_of families)
    ∙ ap (λ own. own ++ rows_in_either from to (rows_of families)) (own_inside from to family.key family.gens.files is))
    ∙ map-append blank (rows_under family) (rows_in_either from to (rows_of families))

pub name_outside : (from to : List ℕ) (family : Family) (families : List Family) → is_under_either from to family ≡ false
    → map blank (rows_in_either from to (rows_of (family ∷ families))) ≡ map blank (rows_in_either from to (rows_of families))
name_outside from to family families is =
    ap (map blank) (filter-append (is_in_either from to) (rows_under family) (rows_of families)
    ∙ ap (λ own. own ++ rows_in_either from to (rows_of families)) (own_outside from to family.key family.gens.files is))

rows_last : (front : List Family) (family : Family) → rows_of (front ++ family ∷ []) ≡ rows_of front ++ rows_under family
rows_last [] family = append-nil (rows_under family)
rows_last (first ∷ front) family =
    ap (λ rest. rows_under first ++ rest) (rows_last front family) ∙ sym (append_assoc (rows_under first) (rows_of front) (rows_under family))

-- one turn: the next family is passed over, or put last
split : (families : List Family) (i : ℕ) (item : Family) → i < length families → item ≡ get_or families i item → drop i families ≡ item ∷ drop (i + 1) families
split families i item within is = drop_more families i item within ∙ ap (λ (it : Family). it ∷ drop (i + 1) families) (sym is)

pub rows_passed : (from to : List ℕ) (families : List Family) (i : ℕ) (item : Family) (front whole : List Row) → i < length families
    → item ≡ get_or families i item → is_under_either from to item ≡ false
    → front ++ map blank (rows_in_either from to (rows_of (drop i families))) ≡ whole
    → front ++ map blank (rows_in_either from to (rows_of (drop (i + 1) families))) ≡ whole
rows_passed from to families i item front whole within is outside so_far =
    ap (λ rest. front ++ rest) (sym (ap (λ (it : List Family). map blank (rows_in_either from to (rows_of it))) (split families i item within is)
    ∙ name_outside from to item (drop (i + 1) families) outside)) ∙ so_far

pub rows_put : (from to : List ℕ) (families blanks : List Family) (i : ℕ) (item new : Family) (whole : List Row) → i < length families
    → item ≡ get_or families i item → is_under_either from to item ≡ true → rows_under new ≡ map blank (rows_under item)
    → rows_of blanks ++ map blank (rows_in_either from to (rows_of (drop i families))) ≡ whole
    → rows_of (blanks ++ new ∷ []) ++ map blank (rows_in_either from to (rows_of (drop (i + 1) families))) ≡ whole
rows_put from to families blanks i item new whole within is inside made so_far =
    let rest = map blank (rows_in_either from to (rows_of (drop (i + 1) families))) in
    ap (λ front. front ++ rest) (rows_last blanks new ∙ ap (λ own. rows_of blanks ++ own) made)
    ∙ append_assoc (rows_of blanks) (map blank (rows_under item)) rest
    ∙ ap (λ more. rows_of blanks ++ more) (sym (ap (λ (it : List Family). map blank (rows_in_either from to (rows_of it))) (split families i item within is)
    ∙ name_inside from to item (drop (i + 1) families) inside))
    ∙ so_far

-- and the keys ascend
all_without : {X : Type 0} (test : X → Bool) (front : List X) (x : X) (more : List X) → list_all test (front ++ x ∷ more) ≡ true
    → list_all test (front ++ more) ≡ true
all_without test [] x more all = (and_parts _ _ all).1
all_without test (first ∷ front) x more all =
    let parts = and_parts _ _ all in and_from _ _ parts.0 (all_without test front x more parts.1)

sorted_without : (front : List Key) (key : Key) (more : List Key) → is_sorted by_key (front ++ key ∷ more) ≡ true → is_sorted by_key (front ++ more) ≡ true
sorted_without [] key more sorted = (and_parts _ _ sorted).1
sorted_without (first ∷ front) key more sorted =
    let parts = and_parts _ _ sorted in
    and_from _ _ (all_without (λ other. is_lt (by_key first other)) front key more parts.0) (sorted_without front key more parts.1)

pub keys_passed : (families : List Family) (front : List Key) (i : ℕ) (item : Family) → i < length families → item ≡ get_or families i item
    → is_sorted by_key (front ++ map (λ (family : Family). family.key) (drop i families)) ≡ true
    → is_sorted by_key (front ++ map (λ (family : Family). family.key) (drop (i + 1) families)) ≡ true
keys_passed families front i item within is sorted =
    sorted_without front item.key (map (λ (family : Family). family.key) (drop (i + 1) families))
    (ap (λ (it : List Family). is_sorted by_key (front ++ map (λ (family : Family). family.key) it)) (sym (split families i item within is)) ∙ sorted)

pub keys_put : (families blanks : List Family) (i : ℕ) (item new : Family) → i < length families → item ≡ get_or families i item → new.key ≡ item.key
    → is_sorted by_key (map (λ (family : Family). family.key) blanks ++ map (λ (family : Family). family.key) (drop i families)) ≡ true
    → is_sorted by_key (map (λ (family : Family). family.key) (blanks ++ new ∷ []) ++ map (λ (family : Family). family.key) (drop (i + 1) families)) ≡ true
keys_put families blanks i item new within is same sorted =
    let rest = map (λ (family : Family). family.key) (drop (i + 1) families) in
    ap (λ (front : List Key). is_sorted by_key (front ++ rest)) (map-append (λ (family : Family). family.key) blanks (new ∷ []))
    ∙ ap (is_sorted by_key) (append_assoc (map (λ (family : Family). family.key) blanks) (new.key ∷ []) rest)
    ∙ ap (λ (key : Key). is_sorted by_key (map (λ (family : Family). family.key) blanks ++ key ∷ rest)) same
    ∙ ap (λ (it : List Family). is_sorted by_key (map (λ (family : Family). family.key) blanks ++ map (λ (family : Family). family.key) it)) (sym (split families i item within is))
    ∙ sorted

pub keys_start : (families : List Family) → ascends by_family families ≡ true → is_sorted by_key (map (λ (family : Family). family.key) families) ≡ true
keys_start families ascend =
    sorted_ascends by_key by_key_total (map (λ (family : Family). family.key) families)
    (ascends_map by_key by_family (λ (family : Family). family.key) (λ x y. refl) families ∙ ascend)

pub keys_end : (blanks : List Family) → is_sorted by_key (map (λ (family : Family). family.key) blanks ++ []) ≡ true → ascends by_family blanks ≡ true
keys_end blanks sorted =
    sym (ascends_map by_key by_family (λ (family : Family). family.key) (λ x y. refl) blanks)
    ∙ ascends_sorted by_key (map (λ (family : Family). family.key) blanks)
    (ap (is_sorted by_key) (sym (append-nil (map (λ (family : Family). family.key) blanks))) ∙ sorted)
