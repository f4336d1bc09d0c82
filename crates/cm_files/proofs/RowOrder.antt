-- Rows of a directory ascend, so that those of one name and type are neighbours, by generation.
use Rattle.std.proofs.Common.{◌≡◌, ℕ, zero, suc, ◌<◌, Bool, true, false, ◌==◌, ◌&&◌, cond, List, [], ◌∷◌, filter, slice_get, Some, refl, ap, arith, ◌∙◌, sym, subst}
use Rattle.std.specs.Cmp.{IsTotalOrder}
use Rattle.std.specs.Cmp.Lexicographic.{on_texts}
use Rattle.std.specs.List.{list_all}
use Rattle.std.specs.Ordering.{is_lt, nat_cmp, ordering_reverse, ordering_then}
use Rattle.std.specs.declared.cmp.Ordering.{Ordering}
use Rattle.std.specs.declared.cmp.Ordering.TheVariants.{Less, Equal}
use Rattle.std.proofs.lemmas.Bool.{and_from, and_parts, eqb-true}
use Rattle.std.proofs.lemmas.Cmp.{nat_cmp_total, nat_list_cmp_total, on_total, then_total}
use Rattle.std.proofs.lemmas.Map.Lookups.{exact_bytes}
use Rattle.cm_lists.proofs.Numbers.{nat_cmp_itself, nat_cmp_less}
use Rattle.cm_lists.proofs.Orders.{equal_from_reverse, is_lt-true, is_lt_from_less, then_squeeze}
use Rattle.cm_lists.proofs.Quantifiers.{all_at, all_filter, all_kept}
use Rattle.cm_files.specs.declared.row.FileRow.{FileRow}
use Rattle.cm_lists.specs.Ascent.{ascends}
use Rattle.cm_files.specs.Catalogue.{Catalogue, IsCatalogue, by_bytes, by_file, rows_of}

by_file_total : IsTotalOrder by_file
by_file_total =
    then_total (on_total (λ (row : FileRow). row.directory) nat_cmp_total)
    (then_total (on_texts (λ (row : FileRow). row.name))
    (then_total (on_texts (λ (row : FileRow). row.kind)) (on_total (λ (row : FileRow). row.generation) nat_cmp_total)))

-- a list whose every element is below all after it
abbrev all_above : FileRow → List FileRow → Bool
all_above row rows = list_all (λ other. is_lt (by_file row other)) rows

abbrev is_sorted : List FileRow → Bool
is_sorted [] = true
is_sorted (row ∷ rows) = all_above row rows && is_sorted rows

above_chain : (row other : FileRow) (rows : List FileRow) → is_lt (by_file row other) ≡ true → all_above other rows ≡ true
    → all_above row rows ≡ true
above_chain row other [] less above = refl
above_chain row other (next ∷ rows) less above =
    and_from _ _
    (is_lt_from_less _ (by_file_total.trans row other next (is_lt-true _ less) (is_lt-true _ (and_parts _ _ above).0)))
    (above_chain row other rows less (and_parts _ _ above).1)

sorted_ascends : (rows : List FileRow) → ascends by_file rows ≡ true → is_sorted rows ≡ true
sorted_ascends [] ascend = refl
sorted_ascends (row ∷ []) ascend = refl
sorted_ascends (row ∷ other ∷ rows) ascend =
    let parts = and_parts _ _ ascend in
    let rest = sorted_ascends (other ∷ rows) parts.1 in
    and_from _ _ (and_from _ _ parts.0 (above_chain row other rows parts.0 (and_parts _ _ rest).0)) rest

sorted_kept : (keep : FileRow → Bool) (rows : List FileRow) → is_sorted rows ≡ true → is_sorted (filter keep rows) ≡ true
sorted_kept keep [] sorted = refl
sorted_kept keep (row ∷ rows) sorted = by (keep row) (sorted_kept keep rows (and_parts _ _ sorted).1)
  where
    by : (kept : Bool) → is_sorted (filter keep rows) ≡ true
        → is_sorted (cond kept (row ∷ filter keep rows) (filter keep rows)) ≡ true
    by true rest = and_from _ _ (all_filter _ keep rows (and_parts _ _ sorted).0) rest
    by false rest = rest

above_at : (rows : List FileRow) (i j : ℕ) (row other : FileRow) → is_sorted rows ≡ true → i < j → slice_get rows i ≡ Some row
    → slice_get rows j ≡ Some other → by_file row other ≡ Less
above_at [] i j row other sorted below is is_other = absurd (cc)
above_at (first ∷ rows) zero zero row other sorted below is is_other = absurd (omega arith)
above_at (first ∷ rows) zero (suc j) row other sorted below is is_other =
    let same : first ≡ row = cc in
    let above = all_at _ rows j other (and_parts _ _ sorted).0 is_other in
    subst (λ (each : FileRow). by_file each other ≡ Less) same (is_lt-true _ above)
above_at (first ∷ rows) (suc i) zero row other sorted below is is_other = absurd (omega arith)
above_at (first ∷ rows) (suc i) (suc j) row other sorted below is is_other =
    above_at rows i j row other (and_parts _ _ sorted).1 (omega arith) is is_other

-- files by name, type and generation
abbrev pub by_rest : FileRow → FileRow → Ordering
by_rest row other =
    ordering_then (by_bytes row.name other.name)
    (ordering_then (by_bytes row.kind other.kind) (nat_cmp row.generation other.generation))

pub text_itself : (text : List ℕ) → by_bytes text text ≡ Equal
text_itself text = equal_from_reverse (by_bytes text text) (nat_list_cmp_total.antisymm text text)

-- each row of a directory is below those after it
pub rows_ascend : (c : Catalogue) → IsCatalogue c → (directory i j : ℕ) (row other : FileRow) → i < j
    → slice_get (rows_of c directory) i ≡ Some row → slice_get (rows_of c directory) j ≡ Some other → by_rest row other ≡ Less
rows_ascend c lawful directory i j row other below is is_other =
    let keep = λ (each : FileRow). each.directory == directory in
    let sorted = sorted_kept keep c.rows (sorted_ascends c.rows lawful.rows_ascend) in
    let less = above_at (rows_of c directory) i j row other sorted below is is_other in
    let first = eqb-true row.directory directory (all_at keep (rows_of c directory) i row (all_kept keep c.rows) is) in
    let second = eqb-true other.directory directory (all_at keep (rows_of c directory) j other (all_kept keep c.rows) is_other) in
    let here : nat_cmp row.directory other.directory ≡ Equal =
    ap (λ n. nat_cmp n other.directory) (first ∙ sym second) ∙ nat_cmp_itself other.directory in
    subst (λ (o : Ordering). ordering_then o (by_rest row other) ≡ Less) here less

-- of one name and type, the lower row has the lower generation
pub lower_generation : (row other : FileRow) → row.name ≡ other.name → row.kind ≡ other.kind → by_rest row other ≡ Less
    → row.generation < other.generation
lower_generation row other name kind less =
    let names : by_bytes row.name other.name ≡ Equal = ap (λ text. by_bytes text other.name) name ∙ text_itself other.name in
    let kinds : by_bytes row.kind other.kind ≡ Equal = ap (λ text. by_bytes text other.kind) kind ∙ text_itself other.kind in
    let generations = nat_cmp row.generation other.generation in
    let first = subst (λ (o : Ordering). ordering_then o (ordering_then (by_bytes row.kind other.kind) generations) ≡ Less) names less in
    nat_cmp_less row.generation other.generation (subst (λ (o : Ordering). ordering_then o generations ≡ Less) kinds first)

-- what is between two rows of one name and type has that name and type
pub between : (row middle other : FileRow) → by_rest row middle ≡ Less → by_rest middle other ≡ Less
    → other.name ≡ row.name → other.kind ≡ row.kind → (row.name ≡ middle.name) × (row.kind ≡ middle.kind)
between row middle other less after name kind =
    let names : by_bytes middle.name other.name ≡ ordering_reverse (by_bytes row.name middle.name) =
    ap (by_bytes middle.name) name ∙ nat_list_cmp_total.antisymm middle.name row.name in
    let kinds : by_bytes middle.kind other.kind ≡ ordering_reverse (by_bytes row.kind middle.kind) =
    ap (by_bytes middle.kind) kind ∙ nat_list_cmp_total.antisymm middle.kind row.kind in
    let first = subst (λ (o : Ordering). ordering_then o (ordering_then (by_bytes middle.kind other.kind) (nat_cmp middle.generation other.generation)) ≡ Less) names after in
    let second = subst (λ (o : Ordering). ordering_then (ordering_reverse (by_bytes row.name middle.name)) (ordering_then o (nat_cmp middle.generation other.generation)) ≡ Less) kinds first in
    let both = then_squeeze _ _ _ _ less second in
    (exact_bytes row.name middle.name both.0, exact_bytes row.kind middle.kind both.1)
