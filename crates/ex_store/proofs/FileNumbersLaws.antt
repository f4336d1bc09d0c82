-- The numbers of the files of all families.
-- Ends that count files (IsCounted) are made by one function (count). Loops over places (for i in at..families.len())
-- close with the invariant and one answer for the start. A family by a row's number is StandsUnder.
use Rattle.std.proofs.Common.{◌≡◌, ℕ, zero, suc, ◌+◌, ◌-◌, ◌<◌, ◌≤◌, nat_lt, Bool, true, false, not, cond, List, [], ◌∷◌, ◌++◌, length, drop, get_or, map, set, take, slice_get, refl, ap, sym, subst, ◌∙◌, arith}
use Rattle.std.specs.List.{list_all, prefix_len}
use Rattle.std.specs.List.Sorted.{IsPartitionPoint, IsPartitionedBy}
use Rattle.std.specs.Ordering.{is_gt, is_lt, ordering_then}
use Rattle.std.specs.declared.cmp.Ordering.{Ordering}
use Rattle.std.specs.declared.cmp.Ordering.TheVariants.{Less, Equal, Greater}
use Rattle.std.proofs.lemmas.Bool.{and_from, and_parts, lt-ltb, ltb-false, ltb-true}
use Rattle.std.proofs.lemmas.Cmp.{nat_list_cmp_total}
use Rattle.std.proofs.lemmas.List.{set-append_left, set-append_right, length-append, length-map, length-set}
use Rattle.cm_lists.proofs.Elements.{slice_get-append_left, slice_get-append_right}
use Rattle.cm_lists.proofs.Places.{may_follow, parted, rises, rises_sorted}
use Rattle.cm_lists.proofs.Prefixes.{prefix_len_all, prefix_len_at, prefix_len_none}
use Rattle.cm_lists.specs.Ascent.{ascends}
use Rattle.cm_files.specs.Catalogue.{by_bytes}
use Rattle.ex_generations.specs.declared.file.File.{File}
use Rattle.ex_store.specs.declared.family.Family.{Family}
use Rattle.ex_store.specs.declared.limits.TheConstants.{ROW_LIMIT}
use Rattle.ex_store.specs.declared.row.Row.{Row}
use Rattle.ex_store.specs.Families.{AreFamilies, IsCounted, by_family, counted, rooms_of, row_under, rows_of, rows_under}
use Rattle.ex_store.specs.Rows.{by_key}
use Rattle.cm_lists.proofs.Ascents.{ascends_map, sorted_ascends}
use Rattle.ex_store.proofs.FamiliesLaws.{all_append, by_name_total}

-- counting changes neither rows nor keys
pub rows_counted : (before : ℕ) (families : List Family) → rows_of (counted before families) ≡ rows_of families
rows_counted before [] = refl
rows_counted before (family ∷ families) = ap (λ rest. rows_under family ++ rest) (rows_counted (before + length family.gens.files) families)

pub is_counted : (before : ℕ) (families : List Family) → IsCounted before (counted before families)
is_counted before [] = tt
is_counted before (family ∷ families) = (refl, is_counted (before + length family.gens.files) families)

pub keys_counted : (before : ℕ) (families : List Family)
    → map (λ (family : Family). family.key) (counted before families) ≡ map (λ (family : Family). family.key) families
keys_counted before [] = refl
keys_counted before (family ∷ families) = ap (λ rest. family.key ∷ rest) (keys_counted (before + length family.gens.files) families)

pub rooms_counted : (before : ℕ) (families : List Family) → rooms_of (counted before families) ≡ rooms_of families
rooms_counted before [] = refl
rooms_counted before (family ∷ families) =
    ap (λ rest. record { key = family.key; room = family.gens.room } ∷ rest) (rooms_counted (before + length family.gens.files) families)

pub are_names : (families items : List Family) → items ≡ counted 0 families → ascends by_family families ≡ true → length (rows_of families) ≤ ROW_LIMIT
    → AreFamilies items
are_names families items is ascend few =
    subst AreFamilies (sym is) (record {
      ascend = sym (ascends_map by_key by_family (λ (family : Family). family.key) (λ x y. refl) (counted 0 families))
          ∙ ap (ascends by_key) (keys_counted 0 families)
          ∙ ascends_map by_key by_family (λ (family : Family). family.key) (λ x y. refl) families
          ∙ ascend;
      counted = is_counted 0 families;
      few = rw (rows_counted 0 families) few;
    })

pub length_under : (family : Family) → length (rows_under family) ≡ length family.gens.files
length_under family = length-map family.gens.files (row_under family.key)

pub length_more : (family : Family) (families : List Family) → length (rows_of (family ∷ families)) ≡ length family.gens.files + length (rows_of families)
length_more family families = length-append (rows_under family) (rows_of families) ∙ ap (λ n. n + length (rows_of families)) (length_under family)

-- the first families are counted as all are
pub counted_taken : (before : ℕ) (families : List Family) (n : ℕ) → IsCounted before families → IsCounted before (take n families)
counted_taken before [] zero is = tt
counted_taken before [] (suc n) is = tt
counted_taken before (family ∷ families) zero is = tt
counted_taken before (family ∷ families) (suc n) is = (is.0, counted_taken family.end families n is.1)

-- where the first families are counted, counting the others counts all
pub counted_from : (before : ℕ) (families : List Family) (n : ℕ) → IsCounted before (take n families)
    → take n families ++ counted (before + length (rows_of (take n families))) (drop n families) ≡ counted before families
counted_from before [] zero is = refl
counted_from before [] (suc n) is = refl
counted_from before (family ∷ families) zero is = ap (λ (m : ℕ). counted m (family ∷ families)) (omega arith)
counted_from before (family ∷ families) (suc n) is =
    let start : before + length (rows_of (take (suc n) (family ∷ families))) ≡ family.end + length (rows_of (take n families)) =
    omega (arith, is.0, length_more family (take n families)) in
    ap (λ (m : ℕ). family ∷ (take n families ++ counted m (drop n families))) start
    ∙ ap (λ (rest : List Family). family ∷ rest) (counted_from family.end families n is.1)
    ∙ ap (λ (m : ℕ). record { key = family.key; gens = family.gens; end = m; demand = family.demand } ∷ counted m families) is.0

first_length : (families : List Family) → length (rows_of (take 0 families)) ≡ 0
first_length [] = refl
first_length (family ∷ families) = refl

pub length_parted : (families : List Family) (n : ℕ)
    → length (rows_of families) ≡ length (rows_of (take n families)) + length (rows_of (drop n families))
length_parted [] zero = refl
length_parted [] (suc n) = refl
length_parted (family ∷ families) zero = omega (arith, first_length (family ∷ families))
length_parted (family ∷ families) (suc n) =
    omega (arith, length_more family families, length_more family (take n families), length_parted families n)

-- where a family ends
end_is : (before : ℕ) (families : List Family) (m : ℕ) (d : Family) → IsCounted before (take (suc m) families) → m < length families
    → (get_or families m d).end ≡ before + length (rows_of (take (suc m) families))
end_is before [] m d is within = absurd (omega arith)
end_is before (family ∷ families) zero d is within = omega (arith, is.0, length_more family [])
end_is before (family ∷ families) (suc m) d is within =
    let rest = end_is family.end families m d is.1 (omega arith) in
    omega (arith, is.0, rest, length_more family (take (suc m) families))

pub files_before_is : (families : List Family) (n end : ℕ) (d : Family) → IsCounted 0 (take n families) → n ≤ length families → 0 < n
    → end ≡ (get_or families (n - 1) d).end → end ≡ length (rows_of (take n families))
files_before_is families zero end d is within some at = absurd (omega arith)
files_before_is families (suc m) end d is within some at =
    let there : suc m - 1 ≡ m = omega arith in
    let here = at ∙ ap (λ (n : ℕ). (get_or families n d).end) there in
    omega (arith, here, end_is 0 families m d is (omega arith))

-- ends never fall
end_after : (before : ℕ) (families : List Family) (j : ℕ) (d : Family) → IsCounted before families → j < length families
    → before ≤ (get_or families j d).end
end_after before [] j d is within = absurd (omega arith)
end_after before (family ∷ families) zero d is within = omega (arith, is.0)
end_after before (family ∷ families) (suc j) d is within =
    let rest = end_after family.end families j d is.1 (omega arith) in omega (arith, is.0, rest)

ends_rise : (before : ℕ) (families : List Family) (i j : ℕ) (d : Family) → IsCounted before families → i ≤ j → j < length families
    → (get_or families i d).end ≤ (get_or families j d).end
ends_rise before [] i j d is low within = absurd (omega arith)
ends_rise before (family ∷ families) zero zero d is low within = omega arith
ends_rise before (family ∷ families) zero (suc j) d is low within = end_after family.end families j d is.1 (omega arith)
ends_rise before (family ∷ families) (suc i) zero d is low within = absurd (omega arith)
ends_rise before (family ∷ families) (suc i) (suc j) d is low within = ends_rise family.end families i j d is.1 (omega arith) (omega arith)

pub ends_fall : (families : List Family) (bound : ℕ) → IsCounted 0 families → (i j : ℕ) (d : Family) → i ≤ j → j < length families
    → nat_lt (get_or families j d).end bound ≡ true → nat_lt (get_or families i d).end bound ≡ true
ends_fall families bound is i j d low within below =
    lt-ltb _ _ (omega (arith, ends_rise 0 families i j d is low within, ltb-true _ _ below))

-- the family that a row is under
pub record StandsUnder (families : List Family) (before i n : ℕ) : Type 0 where
  pub within : n < length families
  pub from : before + length (rows_of (take n families)) ≤ i
  pub inside : (d : Family) → i - (before + length (rows_of (take n families))) < length (get_or families n d).gens.files
  pub same : (d : Family) → slice_get (rows_of families) (i - before)
      ≡ slice_get (rows_under (get_or families n d)) (i - (before + length (rows_of (take n families))))

pub stands_under : (before : ℕ) (families : List Family) (i : ℕ) → IsCounted before families → before ≤ i
    → i < before + length (rows_of families) → StandsUnder families before i (prefix_len (λ family. nat_lt family.end (i + 1)) families)
stands_under before [] i is low within = absurd (omega arith)
stands_under before (family ∷ families) i is low within =
    by (nat_lt family.end (i + 1)) refl
    (λ past. stands_under family.end families i is.1 (omega (arith, past)) (omega (arith, is.0, within, length_more family families)))
  where
    by : (b : Bool) → nat_lt family.end (i + 1) ≡ b
        → (family.end ≤ i → StandsUnder families family.end i (prefix_len (λ family. nat_lt family.end (i + 1)) families))
        → StandsUnder (family ∷ families) before i (cond b (1 + prefix_len (λ family. nat_lt family.end (i + 1)) families) 0)
    by true under rest =
        let n = prefix_len (λ (family : Family). nat_lt family.end (i + 1)) families in
        let past : family.end ≤ i = omega (arith, ltb-true _ _ under) in
        let there = rest past in
        let next : 1 + n ≡ suc n = omega arith in
        let start : before + length (rows_of (take (suc n) (family ∷ families))) ≡ family.end + length (rows_of (take n families)) =
        omega (arith, is.0, length_more family (take n families)) in
        let size = length_under family in
        subst (λ (m : ℕ). StandsUnder (family ∷ families) before i m) (sym next)
        (record {
          within = omega (arith, there.within);
          from = omega (arith, start, there.from);
          inside = λ d. subst (λ (m : ℕ). i - m < length (get_or families n d).gens.files) (sym start) (there.inside d);
          same = λ d.
              slice_get-append_right (rows_under family) (rows_of families) (i - before) (omega (arith, size, is.0, past))
              ∙ ap (slice_get (rows_of families)) (omega (arith, size, is.0, past))
              ∙ there.same d
              ∙ ap (λ (m : ℕ). slice_get (rows_under (get_or families n d)) (i - m)) (sym start);
        })
    by false under rest =
        let here : i < family.end = omega (arith, ltb-false _ _ under) in
        let none = first_length (family ∷ families) in
        let size = length_under family in
        let start : before + length (rows_of (take 0 (family ∷ families))) ≡ before = omega (arith, none) in
        record {
          within = omega arith;
          from = omega (arith, start, low);
          inside = λ d. omega (arith, start, here, is.0, low);
          same = λ d. slice_get-append_left (rows_under family) (rows_of families) (i - before) (omega (arith, size, is.0, here, low))
              ∙ ap (λ (m : ℕ). slice_get (rows_under family) (i - m)) (sym start);
        }

-- how many rows are before those of a directory
pub directories_rise : (directory : List ℕ) (families : List Family) → ascends by_family families ≡ true
    → rises (λ family. by_bytes family.key.directory directory) families ≡ true
directories_rise directory families ascend =
    rises_sorted by_family by_bytes nat_list_cmp_total (λ (family : Family). family.key.directory)
    (λ x y less. first_stays (by_bytes x.key.directory y.key.directory) _ less) directory families (sorted_ascends by_family by_name_total families ascend)
  where
    first_stays : (o p : Ordering) → is_lt (ordering_then o p) ≡ true → is_gt o ≡ false
    first_stays Less p less = refl
    first_stays Equal p less = refl
    first_stays Greater p less = absurd (cc)

own_all : (test : List ℕ → Bool) (family : Family) (own : List File) → test family.key.directory ≡ true
    → list_all (λ (row : Row). test row.key.directory) (map (row_under family.key) own) ≡ true
own_all test family [] is = refl
own_all test family (file ∷ own) is = and_from _ _ is (own_all test family own is)

rows_all : (test : List ℕ → Bool) (families : List Family) → list_all (λ (family : Family). test family.key.directory) families ≡ true
    → list_all (λ (row : Row). test row.key.directory) (rows_of families) ≡ true
rows_all test [] all = refl
rows_all test (family ∷ families) all =
    let parts = and_parts _ _ all in
    all_append (λ (row : Row). test row.key.directory) (rows_under family) (rows_of families) (own_all test family family.gens.files parts.0) (rows_all test families parts.1)

-- a test on the places of directories that never comes back once it has failed
pub prefix_rows : (test : Ordering → Bool)
    → ((a b : Ordering) → may_follow a b ≡ true → test b ≡ true → test a ≡ true) → (directory : List ℕ) (families : List Family)
    → rises (λ family. by_bytes family.key.directory directory) families ≡ true
    → length (rows_of (take (prefix_len (λ family. test (by_bytes family.key.directory directory)) families) families))
    ≡ prefix_len (λ row. test (by_bytes row.key.directory directory)) (rows_of families)
prefix_rows test falls directory [] rise = refl
prefix_rows test falls directory (family ∷ families) rise =
    by (test (by_bytes family.key.directory directory)) refl (prefix_rows test falls directory families (and_parts _ _ rise).1)
  where
    passes : List ℕ → Bool
    passes it = test (by_bytes it directory)

    later : (b : Bool) → (b ≡ true → passes family.key.directory ≡ true) → passes family.key.directory ≡ false → not b ≡ true
    later true back fails = let here = back refl in absurd (cc)
    later false back fails = refl

    none : (more : List Family) → passes family.key.directory ≡ false
        → list_all (λ (other : Family). may_follow (by_bytes family.key.directory directory) (by_bytes other.key.directory directory)) more ≡ true
        → list_all (λ (other : Family). not (passes other.key.directory)) more ≡ true
    none [] fails follow = refl
    none (other ∷ more) fails follow =
        let parts = and_parts _ _ follow in
        and_from _ _ (later (passes other.key.directory)
        (falls (by_bytes family.key.directory directory) (by_bytes other.key.directory directory) parts.0) fails)
        (none more fails parts.1)

    by : (b : Bool) → passes family.key.directory ≡ b
        → length (rows_of (take (prefix_len (λ (family : Family). passes family.key.directory) families) families))
        ≡ prefix_len (λ (row : Row). passes row.key.directory) (rows_of families)
        → length (rows_of (take (cond b (1 + prefix_len (λ (family : Family). passes family.key.directory) families) 0) (family ∷ families)))
        ≡ prefix_len (λ (row : Row). passes row.key.directory) (rows_under family ++ rows_of families)
    by true is rest =
        let n = prefix_len (λ (family : Family). passes family.key.directory) families in
        let next : 1 + n ≡ suc n = omega arith in
        ap (λ (m : ℕ). length (rows_of (take m (family ∷ families)))) next
        ∙ length_more family (take n families)
        ∙ ap (λ m. length family.gens.files + m) rest
        ∙ ap (λ m. m + prefix_len (λ (row : Row). passes row.key.directory) (rows_of families)) (sym (length_under family))
        ∙ sym (prefix_len_all (λ (row : Row). passes row.key.directory) (rows_under family) (rows_of families) (own_all passes family family.gens.files is))
    by false is rest =
        sym (prefix_len_none (λ (row : Row). passes row.key.directory) (rows_under family ++ rows_of families)
        (all_append (λ (row : Row). not (passes row.key.directory)) (rows_under family) (rows_of families)
        (own_all (λ it. not (passes it)) family family.gens.files (ap not is))
        (rows_all (λ it. not (passes it)) families (none families is (and_parts _ _ rise).0))))

-- the families are parted at a directory
directories_part : (test : Ordering → Bool)
    → ((a b : Ordering) → may_follow a b ≡ true → test b ≡ true → test a ≡ true) → (directory : List ℕ) (families : List Family)
    → ascends by_family families ≡ true → IsPartitionedBy (λ family. test (by_bytes family.key.directory directory)) families
directories_part test falls directory families ascend =
    parted test falls (λ (family : Family). by_bytes family.key.directory directory) families (directories_rise directory families ascend)

-- the files of the families before the place that halving finds
pub rows_before : (test : Ordering → Bool)
    → ((a b : Ordering) → may_follow a b ≡ true → test b ≡ true → test a ≡ true) → (directory : List ℕ) (families : List Family) (n : ℕ)
    → ascends by_family families ≡ true → n ≤ length families
    → (IsPartitionedBy (λ family. test (by_bytes family.key.directory directory)) families
    → IsPartitionPoint (λ family. test (by_bytes family.key.directory directory) ≡ true) (λ family. test (by_bytes family.key.directory directory) ≡ false) families n)
    → length (rows_of (take n families)) ≡ prefix_len (λ row. test (by_bytes row.key.directory directory)) (rows_of families)
rows_before test falls directory families n ascend within point_from =
    let point = point_from (directories_part test falls directory families ascend) in
    ap (λ (m : ℕ). length (rows_of (take m families)))
    (sym (prefix_len_at (λ (family : Family). test (by_bytes family.key.directory directory)) families n within point.0 point.1))
    ∙ prefix_rows test falls directory families (directories_rise directory families ascend)

pub found_under : (families : List Family) (i n : ℕ) → IsCounted 0 families → i < length (rows_of families)
    → n ≡ prefix_len (λ family. nat_lt family.end (i + 1)) families → StandsUnder families 0 i n
found_under families i n is within place =
    subst (λ (n : ℕ). StandsUnder families 0 i n) (sym place) (stands_under 0 families i is (omega arith) (omega (arith, within)))

pub row_numbered : (families : List Family) (n at : ℕ) (d : Family) → n < length families → at < length (get_or families n d).gens.files
    → slice_get (rows_of families) (length (rows_of (take n families)) + at) ≡ slice_get (rows_under (get_or families n d)) at
row_numbered [] n at d within inside = absurd (omega arith)
row_numbered (family ∷ families) zero at d within inside =
    ap (λ (m : ℕ). slice_get (rows_under family ++ rows_of families) (m + at)) (first_length (family ∷ families))
    ∙ ap (slice_get (rows_under family ++ rows_of families)) (omega arith)
    ∙ slice_get-append_left (rows_under family) (rows_of families) at (omega (arith, length_under family))
row_numbered (family ∷ families) (suc n) at d within inside =
    let size = length_more family (take n families) in
    slice_get-append_right (rows_under family) (rows_of families) (length (rows_of (take (suc n) (family ∷ families))) + at) (omega (arith, size, length_under family))
    ∙ ap (slice_get (rows_of families)) (omega (arith, size, length_under family))
    ∙ row_numbered families n at d (omega arith) inside

pub rows_set_at : (families : List Family) (n at : ℕ) (d new : Family) (row : Row) → n < length families
    → at < length (get_or families n d).gens.files → rows_under new ≡ set (rows_under (get_or families n d)) at row
    → rows_of (set families n new) ≡ set (rows_of families) (length (rows_of (take n families)) + at) row
rows_set_at [] n at d new row within inside is = absurd (omega arith)
rows_set_at (family ∷ families) zero at d new row within inside is =
    ap (λ own. own ++ rows_of families) is
    ∙ sym (set-append_left (rows_under family) (rows_of families) at row (omega (arith, length_under family)))
    ∙ ap (λ (m : ℕ). set (rows_under family ++ rows_of families) m row) (omega (arith, first_length (family ∷ families)))
rows_set_at (family ∷ families) (suc n) at d new row within inside is =
    let size = length_more family (take n families) in
    ap (λ rest. rows_under family ++ rest) (rows_set_at families n at d new row (omega arith) inside is)
    ∙ ap (λ (m : ℕ). rows_under family ++ set (rows_of families) m row) (omega (arith, size, length_under family))
    ∙ sym (set-append_right (rows_under family) (rows_of families) (length (rows_under family)) (length (rows_of (take (suc n) (family ∷ families))) + at) row refl (omega (arith, size, length_under family)))

pub counted_set : (before : ℕ) (families : List Family) (n : ℕ) (d new : Family) → IsCounted before families → n < length families
    → new.end ≡ (get_or families n d).end → length new.gens.files ≡ length (get_or families n d).gens.files → IsCounted before (set families n new)
counted_set before [] n d new is within end size = absurd (omega arith)
counted_set before (family ∷ families) zero d new is within end size =
    (end ∙ is.0 ∙ ap (λ n. before + n) (sym size), subst (λ (n : ℕ). IsCounted n families) (sym end) is.1)
counted_set before (family ∷ families) (suc n) d new is within end size =
    (is.0, counted_set family.end families n d new is.1 (omega arith) end size)

-- as many files as before where one is marked
pub few_set : (rows new : List Row) (i : ℕ) (made : Row → Row) → i < length rows → ((d : Row) → new ≡ set rows i (made d)) → length new ≡ length rows
few_set [] new i made within is = absurd (omega (arith, within))
few_set (row ∷ rows) new i made within is = ap (λ (it : List Row). length it) (is row) ∙ length-set (row ∷ rows) i (made row)

-- a file that is added to one family
pub front_kept : (families before : List Family) (at : ℕ) (new : Family) → take at families ≡ take at before → IsCounted 0 before
    → IsCounted 0 (take at (set families at new))
front_kept families before at new same is =
    subst (IsCounted 0) (sym (front_set families at new ∙ same)) (counted_taken 0 before at is)
  where
    front_set : (families : List Family) (at : ℕ) (new : Family) → take at (set families at new) ≡ take at families
    front_set [] zero new = refl
    front_set [] (suc at) new = refl
    front_set (family ∷ families) zero new = refl
    front_set (family ∷ families) (suc at) new = ap (λ rest. family ∷ rest) (front_set families at new)

pub one_more : (families : List Family) (at : ℕ) (d new : Family) → at < length families
    → length new.gens.files ≤ length (get_or families at d).gens.files + 1 → length (rows_of (set families at new)) ≤ length (rows_of families) + 1
one_more [] at d new within few = absurd (omega arith)
one_more (family ∷ families) zero d new within few = omega (arith, few, length_more new families, length_more family families)
one_more (family ∷ families) (suc at) d new within few =
    omega (arith, one_more families at d new (omega arith) few, length_more family (set families at new), length_more family families)

pub rows_unchanged : (families : List Family) (at : ℕ) (d new : Family) → at < length families → rows_under new ≡ rows_under (get_or families at d)
    → rows_of (set families at new) ≡ rows_of families
rows_unchanged [] at d new within same = absurd (omega arith)
rows_unchanged (family ∷ families) zero d new within same = ap (λ own. own ++ rows_of families) same
rows_unchanged (family ∷ families) (suc at) d new within same = ap (λ rest. rows_under family ++ rest) (rows_unchanged families at d new (omega arith) same)
