-- Files by family: what is done with the generations of one family is done with its rows, and with no others.
-- There is one induction for each change, and GoesLast (LastRowLaws) for what goes after all. A function over all
-- families is position and one method; its answers take c.index-families-at.result as the default.
use Rattle.std.proofs.Common.{◌≡◌, ℕ, ◌<◌, ◌≤◌, ◌==◌, Bool, true, false, not, cond, zero, suc, List, [], ◌∷◌, ◌++◌, length, get_or, set, take, insert, map, position, Option, None, Some, refl, ap, arith, ◌∙◌, sym, subst, append-nil}
use Rattle.std.specs.List.{list_all, list_any, prefix_len}
use Rattle.std.specs.Option.{option_map, option_map_or}
use Rattle.std.specs.Ordering.{is_eq, is_gt, is_lt, nat_cmp, ordering_reverse, ordering_then}
use Rattle.std.specs.declared.cmp.Ordering.{Ordering}
use Rattle.std.specs.declared.cmp.Ordering.TheVariants.{Less, Equal, Greater}
use Rattle.std.specs.Cmp.{IsTotalOrder}
use Rattle.std.proofs.lemmas.Bool.{and_from, and_parts, not-true, not_from_false, or_parts}
use Rattle.std.proofs.lemmas.Cmp.{on_total}
use Rattle.std.proofs.lemmas.List.Folds.{list_all-append}
use Rattle.std.proofs.lemmas.List.Quantifiers.{position-Some}
use Rattle.cm_lists.proofs.Ascents.{all_above, is_sorted}
use Rattle.cm_lists.proofs.Orders.{lt_is_not_gt}
use Rattle.cm_lists.proofs.Places.{rises, rises_sorted}
use Rattle.cm_lists.proofs.Positions.{none_from_position}
use Rattle.cm_lists.proofs.Quantifiers.{all_weaker}
use Rattle.cm_lists.specs.Ascent.{ascends}
use Rattle.ex_generations.specs.declared.file.File.{File}
use Rattle.ex_generations.specs.Generations.{rewritten}
use Rattle.ex_store.specs.declared.family.Family.{Family}
use Rattle.ex_store.specs.declared.key.FullName.{FullName}
use Rattle.ex_store.specs.declared.key.Key.{Key}
use Rattle.ex_store.specs.declared.row.Row.{Row}
use Rattle.ex_store.specs.Appending.{bytes_at}
use Rattle.ex_store.specs.Families.{by_family, is_under, demand_at, room_at, rooms_of, row_under, rows_of, rows_under}
use Rattle.ex_store.specs.Rows.{added, by_key, by_row, filled, files_of, inserted, is_full, is_of, kept_newest, row_at, without}
use Rattle.cm_lists.proofs.Ascents.{ascends_map, sorted_ascends}
use Rattle.ex_store.proofs.AreRowsLaws.{by_key_total}
use Rattle.ex_store.proofs.KeptLaws.{files_none, files_upper, kept_lower, kept_upper, none_of}
use Rattle.cm_lists.proofs.Insertions.{inserted_ascends, inserted_there}
use Rattle.ex_store.proofs.FamilyLaws.{files_of_under, key_is}

pub by_name_total : IsTotalOrder by_family
by_name_total = on_total (λ (family : Family). family.key) by_key_total

-- where families are beside a key
abbrev pub key_place : Key → Family → Ordering
key_place key family = by_key family.key key

pub names_rise : (key : Key) (families : List Family) → ascends by_family families ≡ true → rises (key_place key) families ≡ true
names_rise key families ascend =
    rises_sorted by_family by_key by_key_total (λ (family : Family). family.key) (λ x y less. lt_is_not_gt (by_key x.key y.key) less) key families
    (sorted_ascends by_family by_name_total families ascend)

-- the family at a place is of the key
abbrev IsAt : Key → List Family → ℕ → Type 0
IsAt key [] i = ⊥
IsAt key (family ∷ families) zero = is_under key family ≡ true
IsAt key (family ∷ families) (suc i) = IsAt key families i

is_at : (key : Key) (families : List Family) (i : ℕ) → i < length families → ((d : Family) → is_under key (get_or families i d) ≡ true)
    → IsAt key families i
is_at key [] i within there = absurd (omega arith)
is_at key (family ∷ families) zero within there = there family
is_at key (family ∷ families) (suc i) within there = is_at key families i (omega arith) there

-- rows that are below a key, and above it
abbrev is_below : Key → Row → Bool
is_below key row = is_lt (by_key row.key key)

abbrev is_above : Key → Row → Bool
is_above key row = is_gt (by_key row.key key)

pub all_append : {X : Type 0} (test : X → Bool) (xs ys : List X) → list_all test xs ≡ true → list_all test ys ≡ true
    → list_all test (xs ++ ys) ≡ true
all_append test xs ys first rest = list_all-append test xs ys ∙ and_from _ _ first rest

below_own : (key under : Key) (own : List File) → is_lt (by_key under key) ≡ true → list_all (is_below key) (map (row_under under) own) ≡ true
below_own key under [] less = refl
below_own key under (file ∷ own) less = and_from _ _ less (below_own key under own less)

above_own : (key under : Key) (own : List File) → is_gt (by_key under key) ≡ true → list_all (is_above key) (map (row_under under) own) ≡ true
above_own key under [] more = refl
above_own key under (file ∷ own) more = and_from _ _ more (above_own key under own more)

below_at : (key : Key) (family : Family) (families : List Family) (i : ℕ) → all_above by_family family families ≡ true → IsAt key families i
    → is_lt (by_key family.key key) ≡ true
below_at key family [] i above at = absurd at
below_at key family (other ∷ families) zero above at =
    subst (λ (it : Key). is_lt (by_key family.key it) ≡ true) (key_is other.key key at) (and_parts _ _ above).0
below_at key family (other ∷ families) (suc i) above at = below_at key family families i (and_parts _ _ above).1 at

turns_above : (o p : Ordering) → p ≡ ordering_reverse o → is_lt o ≡ true → is_gt p ≡ true
turns_above Less p turn less = ap is_gt turn
turns_above Equal p turn less = absurd (cc)
turns_above Greater p turn less = absurd (cc)

above_families : (key : Key) (family : Family) (families : List Family) → is_under key family ≡ true → all_above by_family family families ≡ true
    → list_all (is_above key) (rows_of families) ≡ true
above_families key family [] here above = refl
above_families key family (other ∷ families) here above =
    let parts : (is_lt (by_family family other) ≡ true) × (all_above by_family family families ≡ true) = and_parts _ _ above in
    let less : is_lt (by_key key other.key) ≡ true =
    subst (λ (it : Key). is_lt (by_key it other.key) ≡ true) (key_is family.key key here) parts.0 in
    all_append (is_above key) (rows_under other) (rows_of families)
    (above_own key other.key other.gens.files (turns_above (by_key key other.key) (by_key other.key key) (by_key_total.antisymm other.key key) less))
    (above_families key family families here parts.1)

below_none : (o : Ordering) → is_lt o ≡ true → not (is_eq o) ≡ true
below_none Less is = refl
below_none Equal is = absurd (cc)
below_none Greater is = absurd (cc)

above_none : (o : Ordering) → is_gt o ≡ true → not (is_eq o) ≡ true
above_none Less is = absurd (cc)
above_none Equal is = absurd (cc)
above_none Greater is = refl

none_below : (key : Key) (rows : List Row) → list_all (is_below key) rows ≡ true → none_of key rows ≡ true
none_below key rows all = all_weaker (is_below key) (λ row. not (is_of key row)) (λ row is. below_none (by_key row.key key) is) rows all

none_above : (key : Key) (rows : List Row) → list_all (is_above key) rows ≡ true → none_of key rows ≡ true
none_above key rows all = all_weaker (is_above key) (λ row. not (is_of key row)) (λ row is. above_none (by_key row.key key) is) rows all

-- a row is added after those below its key, and before those above it
then_less : (o p : Ordering) → is_lt o ≡ true → is_lt (ordering_then o p) ≡ true
then_less Less p is = refl
then_less Equal p is = absurd (cc)
then_less Greater p is = absurd (cc)

then_not_less : (o p : Ordering) → is_gt o ≡ true → is_lt (ordering_then o p) ≡ false
then_not_less Less p is = absurd (cc)
then_not_less Equal p is = absurd (cc)
then_not_less Greater p is = refl

inserted_lower : (row : Row) (lower more : List Row) → list_all (is_below row.key) lower ≡ true
    → inserted row (lower ++ more) ≡ lower ++ inserted row more
inserted_lower row [] more all = refl
inserted_lower row (other ∷ lower) more all =
    let parts : (is_below row.key other ≡ true) × (list_all (is_below row.key) lower ≡ true) = and_parts _ _ all in
    rw (then_less (by_key other.key row.key) (nat_cmp other.file.generation row.file.generation) parts.0)
    (ap (λ rest. other ∷ rest) (inserted_lower row lower more parts.1))

inserted_upper : (row : Row) (own upper : List Row) → list_all (is_above row.key) upper ≡ true
    → inserted row (own ++ upper) ≡ inserted row own ++ upper
inserted_upper row [] [] all = refl
inserted_upper row [] (other ∷ upper) all =
    let parts : (is_above row.key other ≡ true) × (list_all (is_above row.key) upper ≡ true) = and_parts _ _ all in
    rw (then_not_less (by_key other.key row.key) (nat_cmp other.file.generation row.file.generation) parts.0) refl
inserted_upper row (other ∷ own) upper all = by (is_lt (by_row other row)) (inserted_upper row own upper all)
  where
    by : (b : Bool) → inserted row (own ++ upper) ≡ inserted row own ++ upper
        → cond b (other ∷ inserted row (own ++ upper)) (row ∷ other ∷ own ++ upper) ≡ cond b (other ∷ inserted row own) (row ∷ other ∷ own) ++ upper
    by true rest = ap (λ more. other ∷ more) rest
    by false rest = refl

added_lower : (retention : ℕ) (row : Row) (lower more : List Row) → list_all (is_below row.key) lower ≡ true
    → added retention row (lower ++ more) ≡ lower ++ added retention row more
added_lower retention row lower more all = by (retention == 0)
  where
    by : (b : Bool) → cond b (inserted row (lower ++ more)) (kept_newest retention row.key (inserted row (lower ++ more)))
        ≡ lower ++ cond b (inserted row more) (kept_newest retention row.key (inserted row more))
    by true = inserted_lower row lower more all
    by false =
        ap (kept_newest retention row.key) (inserted_lower row lower more all)
        ∙ kept_lower retention row.key lower (inserted row more) (none_below row.key lower all)

added_upper : (retention : ℕ) (row : Row) (own upper : List Row) → list_all (is_above row.key) upper ≡ true
    → added retention row (own ++ upper) ≡ added retention row own ++ upper
added_upper retention row own upper all = by (retention == 0)
  where
    by : (b : Bool) → cond b (inserted row (own ++ upper)) (kept_newest retention row.key (inserted row (own ++ upper)))
        ≡ cond b (inserted row own) (kept_newest retention row.key (inserted row own)) ++ upper
    by true = inserted_upper row own upper all
    by false =
        ap (kept_newest retention row.key) (inserted_upper row own upper all)
        ∙ kept_upper retention row.key (inserted row own) upper (none_above row.key upper all)

added_at : (retention : ℕ) (row : Row) (families : List Family) (i : ℕ) (d new : Family) → is_sorted by_family families ≡ true
    → IsAt row.key families i → rows_under new ≡ added retention row (rows_under (get_or families i d))
    → rows_of (set families i new) ≡ added retention row (rows_of families)
added_at retention row [] i d new sorted at is = absurd at
added_at retention row (family ∷ families) zero d new sorted at is =
    let parts = and_parts _ _ sorted in
    ap (λ own. own ++ rows_of families) is
    ∙ sym (added_upper retention row (rows_under family) (rows_of families) (above_families row.key family families at parts.0))
added_at retention row (family ∷ families) (suc i) d new sorted at is =
    let parts = and_parts _ _ sorted in
    ap (λ rest. rows_under family ++ rest) (added_at retention row families i d new parts.1 at is)
    ∙ sym (added_lower retention row (rows_under family) (rows_of families)
    (below_own row.key family.key family.gens.files (below_at row.key family families i parts.0 at)))

-- a row is taken out between those below its key and those above it
then_other : (o p : Ordering) → not (is_eq o) ≡ true → is_eq (ordering_then o p) ≡ false
then_other Less p is = refl
then_other Equal p is = absurd (cc)
then_other Greater p is = refl

without_lower : (full : FullName) (lower more : List Row) → none_of full.key lower ≡ true
    → without full (lower ++ more) ≡ lower ++ without full more
without_lower full [] more none = refl
without_lower full (row ∷ lower) more none =
    let parts : (not (is_of full.key row) ≡ true) × (none_of full.key lower ≡ true) = and_parts _ _ none in
    rw (then_other (by_key row.key full.key) (nat_cmp row.file.generation full.generation) parts.0)
    (ap (λ rest. row ∷ rest) (without_lower full lower more parts.1))

without_upper : (full : FullName) (own upper : List Row) → none_of full.key upper ≡ true
    → without full (own ++ upper) ≡ without full own ++ upper
without_upper full [] [] none = refl
without_upper full [] (row ∷ upper) none =
    let parts : (not (is_of full.key row) ≡ true) × (none_of full.key upper ≡ true) = and_parts _ _ none in
    rw (then_other (by_key row.key full.key) (nat_cmp row.file.generation full.generation) parts.0)
    (ap (λ rest. row ∷ rest) (without_upper full [] upper parts.1))
without_upper full (row ∷ own) upper none = by (is_full full row) (without_upper full own upper none)
  where
    by : (b : Bool) → without full (own ++ upper) ≡ without full own ++ upper
        → cond b (own ++ upper) (row ∷ without full (own ++ upper)) ≡ cond b own (row ∷ without full own) ++ upper
    by true rest = refl
    by false rest = ap (λ more. row ∷ more) rest

row_at_lower : (full : FullName) (lower more : List Row) → none_of full.key lower ≡ true
    → row_at full (lower ++ more) ≡ row_at full more
row_at_lower full [] more none = refl
row_at_lower full (row ∷ lower) more none =
    let parts : (not (is_of full.key row) ≡ true) × (none_of full.key lower ≡ true) = and_parts _ _ none in
    rw (then_other (by_key row.key full.key) (nat_cmp row.file.generation full.generation) parts.0)
    (row_at_lower full lower more parts.1)

row_at_upper : (full : FullName) (own upper : List Row) → none_of full.key upper ≡ true
    → row_at full (own ++ upper) ≡ row_at full own
row_at_upper full [] [] none = refl
row_at_upper full [] (row ∷ upper) none =
    let parts : (not (is_of full.key row) ≡ true) × (none_of full.key upper ≡ true) = and_parts _ _ none in
    rw (then_other (by_key row.key full.key) (nat_cmp row.file.generation full.generation) parts.0) (row_at_upper full [] upper parts.1)
row_at_upper full (row ∷ own) upper none = by (is_full full row) (row_at_upper full own upper none)
  where
    by : (b : Bool) → row_at full (own ++ upper) ≡ row_at full own
        → cond b (Some row) (row_at full (own ++ upper)) ≡ cond b (Some row) (row_at full own)
    by true rest = refl
    by false rest = rest

without_at : (full : FullName) (families : List Family) (i : ℕ) (d new : Family) → is_sorted by_family families ≡ true
    → IsAt full.key families i → rows_under new ≡ without full (rows_under (get_or families i d))
    → rows_of (set families i new) ≡ without full (rows_of families)
without_at full [] i d new sorted at is = absurd at
without_at full (family ∷ families) zero d new sorted at is =
    let parts = and_parts _ _ sorted in
    ap (λ own. own ++ rows_of families) is
    ∙ sym (without_upper full (rows_under family) (rows_of families) (none_above full.key (rows_of families) (above_families full.key family families at parts.0)))
without_at full (family ∷ families) (suc i) d new sorted at is =
    let parts = and_parts _ _ sorted in
    ap (λ rest. rows_under family ++ rest) (without_at full families i d new parts.1 at is)
    ∙ sym (without_lower full (rows_under family) (rows_of families)
    (none_below full.key (rows_under family) (below_own full.key family.key family.gens.files (below_at full.key family families i parts.0 at))))

row_at_at : (full : FullName) (families : List Family) (i : ℕ) (d : Family) → is_sorted by_family families ≡ true
    → IsAt full.key families i → row_at full (rows_of families) ≡ row_at full (rows_under (get_or families i d))
row_at_at full [] i d sorted at = absurd at
row_at_at full (family ∷ families) zero d sorted at =
    let parts = and_parts _ _ sorted in
    row_at_upper full (rows_under family) (rows_of families) (none_above full.key (rows_of families) (above_families full.key family families at parts.0))
row_at_at full (family ∷ families) (suc i) d sorted at =
    let parts = and_parts _ _ sorted in
    row_at_lower full (rows_under family) (rows_of families)
    (none_below full.key (rows_under family) (below_own full.key family.key family.gens.files (below_at full.key family families i parts.0 at)))
    ∙ row_at_at full families i d parts.1 at

files_lower : (key : Key) (lower more : List Row) → none_of key lower ≡ true → files_of key (lower ++ more) ≡ files_of key more
files_lower key [] more none = refl
files_lower key (row ∷ lower) more none =
    let parts : (not (is_of key row) ≡ true) × (none_of key lower ≡ true) = and_parts _ _ none in
    rw (not-true (is_of key row) parts.0) (files_lower key lower more parts.1)

files_at : (key : Key) (families : List Family) (i : ℕ) (d : Family) → is_sorted by_family families ≡ true → IsAt key families i
    → files_of key (rows_of families) ≡ (get_or families i d).gens.files
files_at key [] i d sorted at = absurd at
files_at key (family ∷ families) zero d sorted at =
    let parts = and_parts _ _ sorted in
    files_upper key (rows_under family) (rows_of families) (none_above key (rows_of families) (above_families key family families at parts.0))
    ∙ ap (λ (it : Key). files_of key (map (row_under it) family.gens.files)) (key_is family.key key at)
    ∙ files_of_under key family.gens.files
files_at key (family ∷ families) (suc i) d sorted at =
    let parts = and_parts _ _ sorted in
    files_lower key (rows_under family) (rows_of families)
    (none_below key (rows_under family) (below_own key family.key family.gens.files (below_at key family families i parts.0 at)))
    ∙ files_at key families i d parts.1 at

-- the same of the place that a search gives
at_found : (key : Key) (families : List Family) (i : ℕ) → position (is_under key) families ≡ Some i → IsAt key families i
at_found key [] i found = absurd (cc)
at_found key (family ∷ families) i found =
    is_at key (family ∷ families) i (position-Some (is_under key) (family ∷ families) i family found).0
    (λ d. (position-Some (is_under key) (family ∷ families) i d found).1)

pub under_found : (key : Key) (families : List Family) (i : ℕ) (d : Family) → position (is_under key) families ≡ Some i
    → is_under key (get_or families i d) ≡ true
under_found key [] i d found = absurd (cc)
under_found key (family ∷ families) i d found = (position-Some (is_under key) (family ∷ families) i d found).1

pub files_found : (key : Key) (families : List Family) (i : ℕ) (family : Family) → ascends by_family families ≡ true
    → position (is_under key) families ≡ Some i → family ≡ get_or families i family → files_of key (rows_of families) ≡ family.gens.files
files_found key families i family ascend found is =
    files_at key families i family (sorted_ascends by_family by_name_total families ascend) (at_found key families i found)
    ∙ ap (λ (it : Family). it.gens.files) (sym is)

-- where no family is of the key
other_own : (key under : Key) (own : List File) → is_eq (by_key under key) ≡ false → none_of key (map (row_under under) own) ≡ true
other_own key under [] apart = refl
other_own key under (file ∷ own) apart = and_from _ _ (not_from_false _ apart) (other_own key under own apart)

none_under : (key : Key) (families : List Family) → list_any (is_under key) families ≡ false → none_of key (rows_of families) ≡ true
none_under key [] none = refl
none_under key (family ∷ families) none =
    let parts : (is_under key family ≡ false) × (list_any (is_under key) families ≡ false) = or_parts _ _ none in
    all_append (λ row. not (is_of key row)) (rows_under family) (rows_of families) (other_own key family.key family.gens.files parts.0)
    (none_under key families parts.1)

none_found_of : (key : Key) (families : List Family) → position (is_under key) families ≡ None → none_of key (rows_of families) ≡ true
none_found_of key families none = none_under key families (none_from_position (is_under key) families none)

pub files_absent : (key : Key) (families : List Family) → position (is_under key) families ≡ None → files_of key (rows_of families) ≡ []
files_absent key families none = files_none key (rows_of families) (none_found_of key families none)

pub row_at_absent : (full : FullName) (families : List Family) → position (is_under full.key) families ≡ None
    → row_at full (rows_of families) ≡ None
row_at_absent full families none =
    ap (row_at full) (sym (append-nil (rows_of families))) ∙ row_at_lower full (rows_of families) [] (none_found_of full.key families none)

pub without_absent : (full : FullName) (families : List Family) → position (is_under full.key) families ≡ None
    → without full (rows_of families) ≡ rows_of families
without_absent full families none =
    ap (without full) (sym (append-nil (rows_of families))) ∙ without_lower full (rows_of families) [] (none_found_of full.key families none)
    ∙ append-nil (rows_of families)

-- a family without files is entered at its place
pub rows_entered : (families : List Family) (at : ℕ) (new : Family) → at ≤ length families → new.gens.files ≡ []
    → rows_of (insert families at new) ≡ rows_of families
rows_entered [] zero new within is = ap (λ own. map (row_under new.key) own ++ []) is
rows_entered [] (suc at) new within is = absurd (omega arith)
rows_entered (family ∷ families) zero new within is = ap (λ own. map (row_under new.key) own ++ rows_of (family ∷ families)) is
rows_entered (family ∷ families) (suc at) new within is =
    ap (λ rest. rows_under family ++ rest) (rows_entered families at new (omega arith) is)

pub front_entered : (families : List Family) (at : ℕ) (new : Family) → at ≤ length families → take at (insert families at new) ≡ take at families
front_entered [] zero new within = refl
front_entered [] (suc at) new within = absurd (omega arith)
front_entered (family ∷ families) zero new within = refl
front_entered (family ∷ families) (suc at) new within = ap (λ rest. family ∷ rest) (front_entered families at new (omega arith))

pub ascends_entered : (key : Key) (families : List Family) (at : ℕ) (new : Family) → ascends by_family families ≡ true
    → at ≡ prefix_len (λ family. is_lt (by_key family.key key)) families → new.key ≡ key → position (is_under key) families ≡ None
    → ascends by_family (insert families at new) ≡ true
ascends_entered key families at new ascend place is none =
    ap (λ (n : ℕ). ascends by_family (insert families n new)) (place ∙ ap (λ (it : Key). prefix_len (λ family. is_lt (by_key family.key it)) families) (sym is))
    ∙ ap (ascends by_family) (inserted_there by_family new families)
    ∙ inserted_ascends by_family by_name_total new families ascend
    (ap (λ (it : Key). list_any (is_under it) families) is ∙ none_from_position (is_under key) families none)

-- a family that keeps its key
keys_set : (families : List Family) (at : ℕ) (new d : Family) → new.key ≡ (get_or families at d).key
    → map (λ (family : Family). family.key) (set families at new) ≡ map (λ (family : Family). family.key) families
keys_set [] at new d same = refl
keys_set (family ∷ families) zero new d same = ap (λ key. key ∷ map (λ (family : Family). family.key) families) same
keys_set (family ∷ families) (suc at) new d same = ap (λ rest. family.key ∷ rest) (keys_set families at new d same)

pub ascends_set : (families : List Family) (at : ℕ) (new d : Family) → ascends by_family families ≡ true
    → new.key ≡ (get_or families at d).key → ascends by_family (set families at new) ≡ true
ascends_set families at new d ascend same =
    sym (ascends_map by_key by_family (λ (family : Family). family.key) (λ x y. refl) (set families at new))
    ∙ ap (ascends by_key) (keys_set families at new d same)
    ∙ ascends_map by_key by_family (λ (family : Family). family.key) (λ x y. refl) families
    ∙ ascend

-- a file is added under its family, and taken out
pub added_there : (retention : ℕ) (row : Row) (families : List Family) (at : ℕ) (d new : Family) → ascends by_family families ≡ true
    → at < length families → ((d : Family) → is_under row.key (get_or families at d) ≡ true)
    → rows_under new ≡ added retention (row_under (get_or families at d).key row.file) (rows_under (get_or families at d))
    → rows_of (set families at new) ≡ added retention row (rows_of families)
added_there retention row families at d new ascend within there made =
    let key : (get_or families at d).key ≡ row.key = key_is (get_or families at d).key row.key (there d) in
    added_at retention row families at d new (sorted_ascends by_family by_name_total families ascend) (is_at row.key families at within there)
    (made ∙ ap (λ (it : Key). added retention (row_under it row.file) (rows_under (get_or families at d))) key)

pub without_there : (full : FullName) (families : List Family) (at : ℕ) (d new : Family) → ascends by_family families ≡ true
    → position (is_under full.key) families ≡ Some at
    → rows_under new ≡ without (record { key = (get_or families at d).key; generation = full.generation }) (rows_under (get_or families at d))
    → rows_of (set families at new) ≡ without full (rows_of families)
without_there full families at d new ascend found made =
    let key : (get_or families at d).key ≡ full.key = key_is (get_or families at d).key full.key (under_found full.key families at d found) in
    without_at full families at d new (sorted_ascends by_family by_name_total families ascend) (at_found full.key families at found)
    (made ∙ ap (λ (it : Key). without (record { key = it; generation = full.generation }) (rows_under (get_or families at d))) key)

pub row_at_there : (full : FullName) (families : List Family) (at : ℕ) (d : Family) (file : Option File) → ascends by_family families ≡ true
    → position (is_under full.key) families ≡ Some at
    → option_map (row_under (get_or families at d).key) file
    ≡ row_at (record { key = (get_or families at d).key; generation = full.generation }) (rows_under (get_or families at d))
    → option_map (row_under full.key) file ≡ row_at full (rows_of families)
row_at_there full families at d file ascend found made =
    let key : (get_or families at d).key ≡ full.key = key_is (get_or families at d).key full.key (under_found full.key families at d found) in
    ap (λ (it : Key). option_map (row_under it) file) (sym key) ∙ made
    ∙ ap (λ (it : Key). row_at (record { key = it; generation = full.generation }) (rows_under (get_or families at d))) key
    ∙ sym (row_at_at full families at d (sorted_ascends by_family by_name_total families ascend) (at_found full.key families at found))

pub files_there : (key : Key) (families : List Family) (at : ℕ) (d : Family) → ascends by_family families ≡ true → at < length families
    → ((d : Family) → is_under key (get_or families at d) ≡ true) → files_of key (rows_of families) ≡ (get_or families at d).gens.files
files_there key families at d ascend within there =
    files_at key families at d (sorted_ascends by_family by_name_total families ascend) (is_at key families at within there)

-- a file is filled in between those below its key and those above it
filled_lower : (full : FullName) (moment : ℕ) (bytes : List ℕ) (lower more : List Row) → none_of full.key lower ≡ true
    → filled full moment bytes (lower ++ more) ≡ lower ++ filled full moment bytes more
filled_lower full moment bytes [] more none = refl
filled_lower full moment bytes (row ∷ lower) more none =
    let parts : (not (is_of full.key row) ≡ true) × (none_of full.key lower ≡ true) = and_parts _ _ none in
    rw (then_other (by_key row.key full.key) (nat_cmp row.file.generation full.generation) parts.0)
    (ap (λ rest. row ∷ rest) (filled_lower full moment bytes lower more parts.1))

filled_upper : (full : FullName) (moment : ℕ) (bytes : List ℕ) (own upper : List Row) → none_of full.key upper ≡ true
    → filled full moment bytes (own ++ upper) ≡ filled full moment bytes own ++ upper
filled_upper full moment bytes [] [] none = refl
filled_upper full moment bytes [] (row ∷ upper) none =
    let parts : (not (is_of full.key row) ≡ true) × (none_of full.key upper ≡ true) = and_parts _ _ none in
    rw (then_other (by_key row.key full.key) (nat_cmp row.file.generation full.generation) parts.0)
    (ap (λ rest. row ∷ rest) (filled_upper full moment bytes [] upper parts.1))
filled_upper full moment bytes (row ∷ own) upper none = by (is_full full row) (filled_upper full moment bytes own upper none)
  where
    by : (b : Bool) → filled full moment bytes (own ++ upper) ≡ filled full moment bytes own ++ upper
        → cond b ((record row { file = rewritten moment bytes row.file }) ∷ own ++ upper) (row ∷ filled full moment bytes (own ++ upper))
        ≡ cond b ((record row { file = rewritten moment bytes row.file }) ∷ own) (row ∷ filled full moment bytes own) ++ upper
    by true rest = refl
    by false rest = ap (λ more. row ∷ more) rest

filled_at : (full : FullName) (moment : ℕ) (bytes : List ℕ) (families : List Family) (i : ℕ) (d new : Family)
    → is_sorted by_family families ≡ true → IsAt full.key families i
    → rows_under new ≡ filled full moment bytes (rows_under (get_or families i d))
    → rows_of (set families i new) ≡ filled full moment bytes (rows_of families)
filled_at full moment bytes [] i d new sorted at is = absurd at
filled_at full moment bytes (family ∷ families) zero d new sorted at is =
    let parts = and_parts _ _ sorted in
    ap (λ own. own ++ rows_of families) is
    ∙ sym (filled_upper full moment bytes (rows_under family) (rows_of families) (none_above full.key (rows_of families) (above_families full.key family families at parts.0)))
filled_at full moment bytes (family ∷ families) (suc i) d new sorted at is =
    let parts = and_parts _ _ sorted in
    ap (λ rest. rows_under family ++ rest) (filled_at full moment bytes families i d new parts.1 at is)
    ∙ sym (filled_lower full moment bytes (rows_under family) (rows_of families)
    (none_below full.key (rows_under family) (below_own full.key family.key family.gens.files (below_at full.key family families i parts.0 at))))

pub filled_there : (full : FullName) (moment : ℕ) (bytes : List ℕ) (families : List Family) (at : ℕ) (d new : Family)
    → ascends by_family families ≡ true → position (is_under full.key) families ≡ Some at
    → rows_under new ≡ filled (record { key = (get_or families at d).key; generation = full.generation }) moment bytes (rows_under (get_or families at d))
    → rows_of (set families at new) ≡ filled full moment bytes (rows_of families)
filled_there full moment bytes families at d new ascend found made =
    let key : (get_or families at d).key ≡ full.key = key_is (get_or families at d).key full.key (under_found full.key families at d found) in
    filled_at full moment bytes families at d new (sorted_ascends by_family by_name_total families ascend) (at_found full.key families at found)
    (made ∙ ap (λ (it : Key). filled (record { key = it; generation = full.generation }) moment bytes (rows_under (get_or families at d))) key)

pub filled_absent : (full : FullName) (moment : ℕ) (bytes : List ℕ) (families : List Family) → position (is_under full.key) families ≡ None
    → filled full moment bytes (rows_of families) ≡ rows_of families
filled_absent full moment bytes families none =
    ap (filled full moment bytes) (sym (append-nil (rows_of families)))
    ∙ filled_lower full moment bytes (rows_of families) [] (none_found_of full.key families none)
    ∙ append-nil (rows_of families)

-- a file is added under a family that was found
pub added_found : (retention : ℕ) (row : Row) (families : List Family) (at : ℕ) (d new : Family) → ascends by_family families ≡ true
    → position (is_under row.key) families ≡ Some at
    → rows_under new ≡ added retention (row_under (get_or families at d).key row.file) (rows_under (get_or families at d))
    → rows_of (set families at new) ≡ added retention row (rows_of families)
added_found retention row families at d new ascend found made =
    let key : (get_or families at d).key ≡ row.key = key_is (get_or families at d).key row.key (under_found row.key families at d found) in
    added_at retention row families at d new (sorted_ascends by_family by_name_total families ascend) (at_found row.key families at found)
    (made ∙ ap (λ (it : Key). added retention (row_under it row.file) (rows_under (get_or families at d))) key)

-- the rooms of families
pub rooms_set : (families : List Family) (at : ℕ) (new d : Family) → new.key ≡ (get_or families at d).key
    → new.gens.room ≡ (get_or families at d).gens.room → rooms_of (set families at new) ≡ rooms_of families
rooms_set [] at new d key room = refl
rooms_set (family ∷ families) zero new d key room = λ j. record { key = key j; room = room j } ∷ rooms_of families
rooms_set (family ∷ families) (suc at) new d key room =
    ap (λ rest. record { key = family.key; room = family.gens.room } ∷ rest) (rooms_set families at new d key room)

-- the first family of a key
abbrev pub IsFirst : Key → List Family → ℕ → Type 0
IsFirst key [] i = ⊥
IsFirst key (family ∷ families) zero = is_under key family ≡ true
IsFirst key (family ∷ families) (suc i) = (is_under key family ≡ false) × IsFirst key families i

is_first : (key : Key) (families : List Family) (i : ℕ) → i < length families → ((d : Family) → is_under key (get_or families i d) ≡ true)
    → ((k : ℕ) (d : Family) → k < i → is_under key (get_or families k d) ≡ false) → IsFirst key families i
is_first key [] i within there before = absurd (omega arith)
is_first key (family ∷ families) zero within there before = there family
is_first key (family ∷ families) (suc i) within there before =
    (before 0 family (omega arith), is_first key families i (omega arith) there (λ k d less. before (suc k) d (omega arith)))

pub first_found : (key : Key) (families : List Family) (i : ℕ) → position (is_under key) families ≡ Some i → IsFirst key families i
first_found key [] i found = absurd (cc)
first_found key (family ∷ families) i found =
    is_first key (family ∷ families) i (position-Some (is_under key) (family ∷ families) i family found).0
    (λ d. (position-Some (is_under key) (family ∷ families) i d found).1)
    (λ k d less. (position-Some (is_under key) (family ∷ families) i d found).2 k less)

-- in families that ascend a family of the key is the first one
only_first : (key : Key) (families : List Family) (i : ℕ) → is_sorted by_family families ≡ true → IsAt key families i → IsFirst key families i
only_first key [] i sorted at = absurd at
only_first key (family ∷ families) zero sorted at = at
only_first key (family ∷ families) (suc i) sorted at =
    let parts = and_parts _ _ sorted in
    (less_other (by_key family.key key) (below_at key family families i parts.0 at), only_first key families i parts.1 at)
  where
    less_other : (o : Ordering) → is_lt o ≡ true → is_eq o ≡ false
    less_other Less less = refl
    less_other Equal less = absurd (cc)
    less_other Greater less = refl

pub first_there : (key : Key) (families : List Family) (i : ℕ) → ascends by_family families ≡ true → i < length families
    → ((d : Family) → is_under key (get_or families i d) ≡ true) → IsFirst key families i
first_there key families i ascend within there =
    only_first key families i (sorted_ascends by_family by_name_total families ascend) (is_at key families i within there)

pub first_demand : (key : Key) (families : List Family) (i : ℕ) (d : Family) → IsFirst key families i
    → demand_at key families ≡ (get_or families i d).demand
first_demand key [] i d at = absurd at
first_demand key (family ∷ families) zero d at = rw at refl
first_demand key (family ∷ families) (suc i) d at = rw at.0 (first_demand key families i d at.1)

room_first : (key : Key) (families : List Family) (i : ℕ) (d : Family) → IsFirst key families i
    → room_at key (rooms_of families) ≡ (get_or families i d).gens.room
room_first key [] i d at = absurd at
room_first key (family ∷ families) zero d at = rw at refl
room_first key (family ∷ families) (suc i) d at = rw at.0 (room_first key families i d at.1)

pub room_found : (key : Key) (families : List Family) (i : ℕ) (d : Family) → position (is_under key) families ≡ Some i
    → room_at key (rooms_of families) ≡ (get_or families i d).gens.room
room_found key families i d found = room_first key families i d (first_found key families i found)

room_nowhere : (key : Key) (families : List Family) → list_any (is_under key) families ≡ false → room_at key (rooms_of families) ≡ 0
room_nowhere key [] none = refl
room_nowhere key (family ∷ families) none =
    let parts : (is_under key family ≡ false) × (list_any (is_under key) families ≡ false) = or_parts _ _ none in
    rw parts.0 (room_nowhere key families parts.1)

pub room_none : (key : Key) (families : List Family) → position (is_under key) families ≡ None → room_at key (rooms_of families) ≡ 0
room_none key families none = room_nowhere key families (none_from_position (is_under key) families none)

-- what a file holds
pub bytes_there : (full : FullName) (families : List Family) (at : ℕ) (d : Family) → ascends by_family families ≡ true
    → position (is_under full.key) families ≡ Some at
    → bytes_at (record { key = (get_or families at d).key; generation = full.generation }) (rows_under (get_or families at d)) ≡ bytes_at full (rows_of families)
bytes_there full families at d ascend found =
    let key : (get_or families at d).key ≡ full.key = key_is (get_or families at d).key full.key (under_found full.key families at d found) in
    ap (λ (it : Key). bytes_at (record { key = it; generation = full.generation }) (rows_under (get_or families at d))) key
    ∙ ap (λ (it : Option Row). option_map_or (λ (row : Row). row.file.bytes) it [])
    (sym (row_at_at full families at d (sorted_ascends by_family by_name_total families ascend) (at_found full.key families at found)))

pub bytes_absent : (full : FullName) (families : List Family) → position (is_under full.key) families ≡ None → bytes_at full (rows_of families) ≡ []
bytes_absent full families none = ap (λ (it : Option Row). option_map_or (λ (row : Row). row.file.bytes) it []) (row_at_absent full families none)
