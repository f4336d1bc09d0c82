-- How many rows and bytes there are where a row is added.
use Rattle.std.proofs.Common.{◌≡◌, ℕ, suc, ◌+◌, ◌==◌, ◌&&◌, nat_le, Bool, true, false, cond, List, [], ◌∷◌, length, refl, ap, arith, ◌∙◌, sym}
use Rattle.std.specs.Ordering.{is_lt}
use Rattle.std.proofs.lemmas.List.Sums.{sum_by-cons}
use Rattle.ex_generations.specs.Retention.{live}
use Rattle.ex_store.specs.declared.key.Key.{Key}
use Rattle.ex_store.specs.declared.row.Row.{Row}
use Rattle.ex_store.specs.Rows.{added, by_row, files_of, inserted, is_of, kept_newest, total, with_mark}

pub total_cons : (row : Row) (rows : List Row) → total (row ∷ rows) ≡ length row.file.bytes + total rows
total_cons row rows = sum_by-cons (λ (each : Row). length each.file.bytes) row rows

total_inserted : (row : Row) (rows : List Row) → total (inserted row rows) ≡ length row.file.bytes + total rows
total_inserted row [] = total_cons row []
total_inserted row (other ∷ rows) = by (is_lt (by_row other row)) (total_inserted row rows)
  where
    by : (b : Bool) → total (inserted row rows) ≡ length row.file.bytes + total rows
        → total (cond b (other ∷ inserted row rows) (row ∷ other ∷ rows)) ≡ length row.file.bytes + total (other ∷ rows)
    by true rest =
        let first = total_cons other (inserted row rows) in
        let second = total_cons other rows in
        omega (arith, first, second, rest)
    by false rest = total_cons row (other ∷ rows)

length_inserted : (row : Row) (rows : List Row) → length (inserted row rows) ≡ suc (length rows)
length_inserted row [] = refl
length_inserted row (other ∷ rows) = by (is_lt (by_row other row)) (length_inserted row rows)
  where
    by : (b : Bool) → length (inserted row rows) ≡ suc (length rows)
        → length (cond b (other ∷ inserted row rows) (row ∷ other ∷ rows)) ≡ suc (suc (length rows))
    by true rest = ap (λ n. suc n) rest
    by false rest = refl

total_kept : (retention : ℕ) (key : Key) (rows : List Row) → total (kept_newest retention key rows) ≡ total rows
total_kept retention key [] = refl
total_kept retention key (row ∷ rows) =
    by (is_of key row && nat_le retention (live (files_of key rows))) (total_kept retention key rows)
  where
    by : (b : Bool) → total (kept_newest retention key rows) ≡ total rows
        → total (cond b (with_mark true row) row ∷ kept_newest retention key rows) ≡ total (row ∷ rows)
    by true rest =
        total_cons (with_mark true row) (kept_newest retention key rows)
        ∙ (ap (λ n. length row.file.bytes + n) rest ∙ sym (total_cons row rows))
    by false rest =
        total_cons row (kept_newest retention key rows)
        ∙ (ap (λ n. length row.file.bytes + n) rest ∙ sym (total_cons row rows))

length_kept : (retention : ℕ) (key : Key) (rows : List Row) → length (kept_newest retention key rows) ≡ length rows
length_kept retention key [] = refl
length_kept retention key (row ∷ rows) = ap (λ n. suc n) (length_kept retention key rows)

pub total_added : (retention : ℕ) (row : Row) (rows : List Row) → total (added retention row rows) ≡ length row.file.bytes + total rows
total_added retention row rows = by (retention == 0)
  where
    by : (b : Bool) → total (cond b (inserted row rows) (kept_newest retention row.key (inserted row rows)))
        ≡ length row.file.bytes + total rows
    by true = total_inserted row rows
    by false = total_kept retention row.key (inserted row rows) ∙ total_inserted row rows

pub length_added : (retention : ℕ) (row : Row) (rows : List Row) → length (added retention row rows) ≡ suc (length rows)
length_added retention row rows = by (retention == 0)
  where
    by : (b : Bool) → length (cond b (inserted row rows) (kept_newest retention row.key (inserted row rows))) ≡ suc (length rows)
    by true = length_inserted row rows
    by false = length_kept retention row.key (inserted row rows) ∙ length_inserted row rows
