-- What a migration leaves: each file as it was, but with the count of its directory.
use Rattle.std.proofs.Common.{◌≡◌, ◌+◌, ◌<◌, ℕ, zero, suc, List, [], ◌∷◌, length, get_or, map, refl, ap, ◌∙◌, sym, arith}
use Rattle.std.proofs.lemmas.List.Sums.{sum_by-cons}
use Rattle.ex_generations.specs.declared.file.Remark.TheVariants as remarks
use Rattle.ex_store.specs.declared.directory.Directory.{Directory}
use Rattle.ex_store.specs.declared.row.Row.{Row}
use Rattle.ex_store.specs.Draft.{kept_by}
use Rattle.ex_store.specs.Rows.{total, with_remark}
use Rattle.ex_store.specs.State.{retention_of}

-- migrated files keep all else
pub kept_rows : (directories : List Directory) (rows : List Row)
    → map (with_remark (remarks.Keep 0)) (map (kept_by directories) rows) ≡ map (with_remark (remarks.Keep 0)) rows
kept_rows directories [] = refl
kept_rows directories (row ∷ rows) =
    ap (λ more. with_remark (remarks.Keep 0) row ∷ more) (kept_rows directories rows)

-- and each keeps as many generations as its directory
pub keeps_of : (directories : List Directory) (rows : List Row) (i : ℕ) (d : Row) → i < length rows
    → (get_or (map (kept_by directories) rows) i d).file.keep
    ≡ retention_of (get_or rows i d).key.directory directories
keeps_of directories [] i d within = absurd (omega arith)
keeps_of directories (row ∷ rows) zero d within = refl
keeps_of directories (row ∷ rows) (suc i) d within = keeps_of directories rows i d (omega arith)

-- so that they have as many bytes
pub kept_total : (directories : List Directory) (rows : List Row) → total (map (kept_by directories) rows) ≡ total rows
kept_total directories [] = refl
kept_total directories (row ∷ rows) =
    sum_by-cons (λ (each : Row). length each.file.bytes) (kept_by directories row) (map (kept_by directories) rows)
    ∙ (ap (λ more. length row.file.bytes + more) (kept_total directories rows)
    ∙ sym (sum_by-cons (λ (each : Row). length each.file.bytes) row rows))
