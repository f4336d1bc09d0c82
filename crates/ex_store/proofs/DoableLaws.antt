-- Changes that can be done one after the other.
-- Changes in turn are a Bool by recursion (are_doable). Over a Vec by value YieldsList-from_vec, YieldsList-so_far and
-- YieldsList-turn say which is next.
use Rattle.std.proofs.Common.{◌≡◌, ◌+◌, ◌<◌, true, List, [], ◌∷◌, ◌++◌, length, map, take, drop, get_or, refl, ap, subst, sym, ◌∙◌}
use Rattle.std.specs.List.{list_all}
use Rattle.std.proofs.lemmas.Bool.{and_from, and_parts}
use Rattle.std.proofs.lemmas.List.{drop_more, map-id, take-append-drop}
use Rattle.ex_store.specs.declared.ready.RowChange.{RowChange}
use Rattle.ex_store.specs.declared.row.Row.{Row}
use Rattle.ex_store.specs.Ready.{are_doable, is_doable, is_lawful, rows_after, rows_after_all}

-- a change more
pub doable_more : (rows : List Row) (done : List RowChange) (change : RowChange) → are_doable rows done ≡ true
    → is_doable (rows_after_all rows done) change ≡ true → are_doable rows (done ++ change ∷ []) ≡ true
doable_more rows [] change all here = and_from _ _ here refl
doable_more rows (first ∷ done) change all here =
    let parts = and_parts _ _ all in
    and_from _ _ parts.0 (doable_more (rows_after rows first) done change parts.1 here)

-- the next one of them
doable_next : (rows : List Row) (done : List RowChange) (change : RowChange) (more : List RowChange)
    → are_doable rows (done ++ change ∷ more) ≡ true → is_doable (rows_after_all rows done) change ≡ true
doable_next rows [] change more all = (and_parts _ _ all).0
doable_next rows (first ∷ done) change more all =
    doable_next (rows_after rows first) done change more (and_parts _ _ all).1

-- those that were done, the next one and what is left
pub split_at : (items done : List RowChange) (change : RowChange)
    → map (λ (each : RowChange). each) done ≡ take (length done) items → length done < length items
    → change ≡ get_or items (length done) change → items ≡ done ++ change ∷ drop (length done + 1) items
split_at items done change so_far within is =
    sym (take-append-drop (length done) items)
    ∙ ap (λ front. front ++ drop (length done) items) (sym so_far ∙ map-id done)
    ∙ ap (λ rest. done ++ rest) (drop_more items (length done) change within ∙ ap (λ first. first ∷ drop (length done + 1) items) (sym is))

pub doable_at : (rows : List Row) (items done : List RowChange) (change : RowChange) → are_doable rows items ≡ true
    → map (λ (each : RowChange). each) done ≡ take (length done) items → length done < length items
    → change ≡ get_or items (length done) change → is_doable (rows_after_all rows done) change ≡ true
doable_at rows items done change all so_far within is =
    doable_next rows done change (drop (length done + 1) items)
    (subst (λ (each : List RowChange). are_doable rows each ≡ true) (split_at items done change so_far within is) all)

-- lawful changes and one more
pub lawful_more : (changes : List RowChange) (change : RowChange) → list_all is_lawful changes ≡ true → is_lawful change ≡ true
    → list_all is_lawful (changes ++ change ∷ []) ≡ true
lawful_more [] change all here = and_from _ _ here refl
lawful_more (first ∷ changes) change all here =
    let parts = and_parts _ _ all in
    and_from _ _ parts.0 (lawful_more changes change parts.1 here)
