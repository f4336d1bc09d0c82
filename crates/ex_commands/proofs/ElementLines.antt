-- Lines that are put for one element of a list after the other.
use Rattle.std.proofs.Common.{◌≡◌, ◌≤◌, true, List, ◌∷◌, length, ap, ◌∙◌, sym}
use Rattle.std.specs.List.{list_all}
use Rattle.std.proofs.lemmas.Bool.{and_parts, leb-true}
use Rattle.ex_generations.specs.declared.file.TheConstants.{FILE_LIMIT}
use Rattle.ex_store.specs.declared.limits.TheConstants.{MOMENT_LIMIT}
use Rattle.ex_store.specs.declared.directory.Directory.{Directory}
use Rattle.ex_store.specs.declared.row.Row.{Row}
use Rattle.ex_store.specs.WellFormed.{is_reading, is_row_among}
use Rattle.ex_store.proofs.AllCopiedLaws.{formed}

-- the first of some files, and those after it
pub record IsFirst (directories : List Directory) (row : Row) (rest : List Row) : Type 0 where
  pub moment : row.file.moment ≤ MOMENT_LIMIT
  pub reading : is_reading row.file.read ≡ true
  pub short : length row.file.bytes ≤ FILE_LIMIT
  pub lawful : list_all (is_row_among directories) rest ≡ true

pub is_first : (directories : List Directory) (rows rest : List Row) (row : Row) → rows ≡ row ∷ rest
    → list_all (is_row_among directories) rows ≡ true → IsFirst directories row rest
is_first directories rows rest row is lawful =
    let parts = and_parts _ _ (ap (list_all (is_row_among directories)) (sym is) ∙ lawful) in
    let form = formed directories row parts.0 in
    record {
      moment = leb-true row.file.moment MOMENT_LIMIT (and_parts _ _ (and_parts _ _ form.stamped).0).1;
      reading = (and_parts _ _ form.stamped).1;
      short = leb-true (length row.file.bytes) FILE_LIMIT form.short;
      lawful = parts.1;
    }
