-- Of the rows of two directories, those of one are found, added and taken out as among all rows.
-- Rows of two directories go through a filter (Covers).
use Rattle.std.proofs.Common.{◌≡◌, ℕ, ◌==◌, ◌&&◌, ◌||◌, nat_le, Bool, true, false, not, cond, List, [], ◌∷◌, filter, map, Option, Some, None, refl, ap, ◌∙◌}
use Rattle.std.specs.Cmp.{Equal-is}
use Rattle.std.specs.List.{list_all}
use Rattle.std.specs.Ordering.{is_eq, is_lt, nat_cmp}
use Rattle.std.proofs.lemmas.Bool.{and_from, and_parts, or_left, or_right}
use Rattle.std.proofs.lemmas.Map.Lookups.{exact_bytes}
use Rattle.cm_lists.proofs.Ascents.{all_above, is_sorted}
use Rattle.cm_lists.proofs.Filters.{filter_within, find_within}
use Rattle.cm_lists.proofs.Orders.{is_eq_then_first, is_lt-true, is_lt_from_less}
use Rattle.cm_lists.proofs.Quantifiers.{all_filter}
use Rattle.cm_lists.specs.Ascent.{ascends}
use Rattle.cm_files.specs.Catalogue.{by_bytes}
use Rattle.cm_files.proofs.RowOrder.{text_itself}
use Rattle.ex_generations.specs.Retention.{live}
use Rattle.ex_store.specs.declared.key.FullName.{FullName}
use Rattle.ex_store.specs.declared.key.Key.{Key}
use Rattle.ex_store.specs.declared.row.Row.{Row}
use Rattle.ex_store.specs.Ready.{reinserted}
use Rattle.ex_store.specs.Rows.{added, by_key, by_row, files_of, inserted, is_full, is_in_either, is_of, kept_newest, row_at, rows_in_either, with_mark, with_name, without}
use Rattle.cm_lists.proofs.Ascents.{sorted_ascends}
use Rattle.ex_store.proofs.AreRowsLaws.{by_row_total}

-- a directory is one of two
abbrev pub is_either : List ℕ → List ℕ → List ℕ → Bool
is_either from to name = is_eq (by_bytes name from) || is_eq (by_bytes name to)

-- the directory of a target is
pub either_target : (from to : List ℕ) → is_either from to to ≡ true
either_target from to = or_right (is_eq (by_bytes to from)) (is_eq (by_bytes to to)) (ap is_eq (text_itself to))

-- and so is that of a source
pub either_source : (from to name : List ℕ) → is_eq (by_bytes name from) ≡ true → is_either from to name ≡ true
either_source from to name is = or_left (is_eq (by_bytes name from)) (is_eq (by_bytes name to)) is

-- what all rows of a name and type pass, marked or not
record Covers (keep : Row → Bool) (key : Key) : Type 0 where
  pub own : (row : Row) → is_of key row ≡ true → keep row ≡ true
  pub mark : (row : Row) → keep (with_mark true row) ≡ keep row

covers : (from to : List ℕ) (key : Key) → is_either from to key.directory ≡ true → Covers (is_in_either from to) key
covers from to key here = record {
  own = λ row is. ap (is_either from to) (exact_bytes row.key.directory key.directory (is_eq_then_first (by_bytes row.key.directory key.directory) _ is)) ∙ here;
  mark = λ row. refl;
}

-- a row of a full name is one of its name and type
full_own : (full : FullName) (row : Row) → is_full full row ≡ true → is_of full.key row ≡ true
full_own full row is =
    (Equal-is (by_key row.key full.key)).1
    (is_eq_then_first (by_key row.key full.key) (nat_cmp row.file.generation full.generation) is)

files_filter : (keep : Row → Bool) (key : Key) (rows : List Row) → Covers keep key → files_of key (filter keep rows) ≡ files_of key rows
files_filter keep key rows all = ap (map (λ (row : Row). row.file)) (filter_within (is_of key) keep all.own rows)

without_filter : (keep : Row → Bool) (full : FullName) (rows : List Row) → Covers keep full.key
    → without full (filter keep rows) ≡ filter keep (without full rows)
without_filter keep full [] all = refl
without_filter keep full (row ∷ rows) all =
    by (is_full full row) (keep row) refl refl (λ is. all.own row (full_own full row is)) (without_filter keep full rows all)
  where
    by : (one kept : Bool) → is_full full row ≡ one → keep row ≡ kept → (is_full full row ≡ true → keep row ≡ true)
        → without full (filter keep rows) ≡ filter keep (without full rows)
        → without full (cond kept (row ∷ filter keep rows) (filter keep rows)) ≡ filter keep (cond one rows (row ∷ without full rows))
    by true true is stays here rest = rw is refl
    by true false is stays here rest = let never : keep row ≡ true = here is in absurd (cc)
    by false true is stays here rest = rw (is, stays) (ap (λ more. row ∷ more) rest)
    by false false is stays here rest = rw stays rest

-- a row goes in front of those that are not below it
inserted_first : (row : Row) (rows : List Row) → list_all (λ other. not (is_lt (by_row other row))) rows ≡ true
    → inserted row rows ≡ row ∷ rows
inserted_first row [] all = refl
inserted_first row (other ∷ rows) all = by (is_lt (by_row other row)) (and_parts _ _ all).0
  where
    by : (b : Bool) → not b ≡ true → cond b (other ∷ inserted row rows) (row ∷ other ∷ rows) ≡ row ∷ other ∷ rows
    by true below = absurd (cc)
    by false below = refl

none_below : (row other : Row) (rows : List Row) → is_lt (by_row other row) ≡ false → all_above by_row other rows ≡ true
    → list_all (λ each. not (is_lt (by_row each row))) rows ≡ true
none_below row other [] not_below above = refl
none_below row other (each ∷ rows) not_below above =
    let parts = and_parts _ _ above in
    and_from _ _ (by (is_lt (by_row each row)) refl parts.0) (none_below row other rows not_below parts.1)
  where
    by : (b : Bool) → is_lt (by_row each row) ≡ b → is_lt (by_row other each) ≡ true → not b ≡ true
    by true below after =
        let chain : is_lt (by_row other row) ≡ true =
        is_lt_from_less _ (by_row_total.trans other each row (is_lt-true _ after) (is_lt-true _ below)) in
        absurd (cc)
    by false below after = refl

inserted_filter : (keep : Row → Bool) (row : Row) (rows : List Row) → keep row ≡ true → is_sorted by_row rows ≡ true
    → inserted row (filter keep rows) ≡ filter keep (inserted row rows)
inserted_filter keep row [] here sorted = rw here refl
inserted_filter keep row (other ∷ rows) here sorted =
    by (is_lt (by_row other row)) (keep other) refl refl (inserted_filter keep row rows here (and_parts _ _ sorted).1)
  where
    by : (below kept : Bool) → is_lt (by_row other row) ≡ below → keep other ≡ kept
        → inserted row (filter keep rows) ≡ filter keep (inserted row rows)
        → inserted row (cond kept (other ∷ filter keep rows) (filter keep rows))
        ≡ filter keep (cond below (other ∷ inserted row rows) (row ∷ other ∷ rows))
    by true true is stays rest = rw (is, stays) (ap (λ more. other ∷ more) rest)
    by true false is stays rest = rw stays rest
    by false true is stays rest = rw (is, here, stays) refl
    by false false is stays rest =
        rw (here, stays)
        (inserted_first row (filter keep rows)
        (all_filter (λ each. not (is_lt (by_row each row))) keep rows (none_below row other rows is (and_parts _ _ sorted).0)))

kept_filter : (keep : Row → Bool) (retention : ℕ) (key : Key) (rows : List Row) → Covers keep key
    → kept_newest retention key (filter keep rows) ≡ filter keep (kept_newest retention key rows)
kept_filter keep retention key [] all = refl
kept_filter keep retention key (row ∷ rows) all =
    by (keep row) refl (kept_filter keep retention key rows all)
  where
    stay : (marks : Bool) → keep row ≡ true
        → cond marks (with_mark true row) row ∷ filter keep (kept_newest retention key rows)
        ≡ filter keep (cond marks (with_mark true row) row ∷ kept_newest retention key rows)
    stay true is = rw (all.mark row ∙ is) refl
    stay false is = rw is refl

    go : (marks : Bool) → keep row ≡ false
        → filter keep (kept_newest retention key rows)
        ≡ filter keep (cond marks (with_mark true row) row ∷ kept_newest retention key rows)
    go true is = rw (all.mark row ∙ is) refl
    go false is = rw is refl

    by : (kept : Bool) → keep row ≡ kept
        → kept_newest retention key (filter keep rows) ≡ filter keep (kept_newest retention key rows)
        → kept_newest retention key (cond kept (row ∷ filter keep rows) (filter keep rows))
        ≡ filter keep (kept_newest retention key (row ∷ rows))
    by true is rest =
        rw (files_filter keep key rows all, rest) (stay (is_of key row && nat_le retention (live (files_of key rows))) is)
    by false is rest = rest ∙ go (is_of key row && nat_le retention (live (files_of key rows))) is

added_filter : (keep : Row → Bool) (retention : ℕ) (row : Row) (rows : List Row) → keep row ≡ true → Covers keep row.key
    → is_sorted by_row rows ≡ true → added retention row (filter keep rows) ≡ filter keep (added retention row rows)
added_filter keep retention row rows here all sorted =
    rw (inserted_filter keep row rows here sorted) (by (retention == 0))
  where
    by : (b : Bool) → cond b (filter keep (inserted row rows)) (kept_newest retention row.key (filter keep (inserted row rows)))
        ≡ filter keep (cond b (inserted row rows) (kept_newest retention row.key (inserted row rows)))
    by true = refl
    by false = kept_filter keep retention row.key (inserted row rows) all

-- the generations of a name and type
pub files_either : (from to : List ℕ) (key : Key) (rows : List Row) → is_either from to key.directory ≡ true
    → files_of key (rows_in_either from to rows) ≡ files_of key rows
files_either from to key rows here = files_filter (is_in_either from to) key rows (covers from to key here)

-- the row of a full name
pub row_at_either : (from to : List ℕ) (full : FullName) (rows : List Row) → is_either from to full.key.directory ≡ true
    → row_at full (rows_in_either from to rows) ≡ row_at full rows
row_at_either from to full rows here =
    find_within (is_full full) (is_in_either from to) (λ row is. (covers from to full.key here).own row (full_own full row is)) rows

pub without_either : (from to : List ℕ) (full : FullName) (rows : List Row) → is_either from to full.key.directory ≡ true
    → without full (rows_in_either from to rows) ≡ rows_in_either from to (without full rows)
without_either from to full rows here = without_filter (is_in_either from to) full rows (covers from to full.key here)

pub added_either : (from to : List ℕ) (retention : ℕ) (row : Row) (rows : List Row) → is_either from to row.key.directory ≡ true
    → ascends by_row rows ≡ true → added retention row (rows_in_either from to rows) ≡ rows_in_either from to (added retention row rows)
added_either from to retention row rows here ascend =
    added_filter (is_in_either from to) retention row rows here (covers from to row.key here)
    (sorted_ascends by_row by_row_total rows ascend)

-- the same with a row that was taken out, where there is one
pub reinserted_either : (from to : List ℕ) (target : FullName) (rows : List Row) (row : Option Row)
    → is_either from to target.key.directory ≡ true → ascends by_row rows ≡ true
    → reinserted target (rows_in_either from to rows) row ≡ rows_in_either from to (reinserted target rows row)
reinserted_either from to target rows None here ascend = refl
reinserted_either from to target rows (Some row) here ascend =
    added_either from to row.file.keep (with_name target row.file) rows here ascend
