-- The rows of a directory have their forms.
use Rattle.std.proofs.Common.{◌≡◌, ℕ, ◌<◌, ◌≤◌, Bool, true, false, ◌&&◌, ◌==◌, nat_lt, nat_le, if◌then◌else◌, List, length, Some, None, refl, arith}
use Rattle.std.specs.List.{list_all, list_any}
use Rattle.std.proofs.lemmas.Bool.{and_parts}
use Rattle.std.proofs.lemmas.Bool.Decides.{nat_tests}
use Rattle.cm_lists.proofs.Quantifiers.{all_filter}
use Rattle.cm_tables.proofs.FoundLemmas.{lower_same}
use Rattle.cm_text.specs.declared.name.TheConstants.{NAME_LIMIT}
use Rattle.cm_text.specs.BeginLaws.{lower}
use Rattle.cm_text.specs.Bytes.{is_name}
use Rattle.cm_text.specs.Case.{equals}
use Rattle.cm_files.specs.declared.row.FileRow.{FileRow}
use Rattle.cm_files.specs.Catalogue.{Catalogue, IsCatalogue, is_row, is_upper_name, rows_of}
use Rattle.cm_files.specs.Selection.{agree}
use Rattle.cm_recognise.specs.Candidates.{generation_like, highest}
use Rattle.cm_recognise.proofs.Sources.{Comes, highest_comes}
use Rattle.cm_recognise.proofs.LetterCase.{upper_names}

pub record RowForm (row : FileRow) : Type 0 where
  pub some : 0 < length row.name
  pub name_short : length row.name ≤ NAME_LIMIT
  pub names : list_all is_name row.name ≡ true
  pub kind_short : length row.kind ≤ NAME_LIMIT
  pub kinds : list_all is_name row.kind ≡ true
  pub low : 0 < row.generation
  pub most : row.generation ≤ 131071

pub row_form : (directories : ℕ) (row : FileRow) → is_row directories row ≡ true → RowForm row
row_form directories row is =
    let eight = and_parts (nat_lt row.directory directories && nat_lt 0 (length row.name) && nat_le (length row.name) NAME_LIMIT && is_upper_name row.name && nat_le (length row.kind) NAME_LIMIT && is_upper_name row.kind && nat_lt 0 row.generation) (nat_le row.generation 131071) is in
    let seven = and_parts (nat_lt row.directory directories && nat_lt 0 (length row.name) && nat_le (length row.name) NAME_LIMIT && is_upper_name row.name && nat_le (length row.kind) NAME_LIMIT && is_upper_name row.kind) (nat_lt 0 row.generation) eight.0 in
    let six = and_parts (nat_lt row.directory directories && nat_lt 0 (length row.name) && nat_le (length row.name) NAME_LIMIT && is_upper_name row.name && nat_le (length row.kind) NAME_LIMIT) (is_upper_name row.kind) seven.0 in
    let five = and_parts (nat_lt row.directory directories && nat_lt 0 (length row.name) && nat_le (length row.name) NAME_LIMIT && is_upper_name row.name) (nat_le (length row.kind) NAME_LIMIT) six.0 in
    let four = and_parts (nat_lt row.directory directories && nat_lt 0 (length row.name) && nat_le (length row.name) NAME_LIMIT) (is_upper_name row.name) five.0 in
    let three = and_parts (nat_lt row.directory directories && nat_lt 0 (length row.name)) (nat_le (length row.name) NAME_LIMIT) four.0 in
    let two = and_parts (nat_lt row.directory directories) (nat_lt 0 (length row.name)) three.0 in
    let some = two.1 in
    let name_short = three.1 in
    let kind_short = five.1 in
    let low = seven.1 in
    let most = eight.1 in
    record {
      some = grind (arith, nat_tests);
      name_short = grind (arith, nat_tests);
      names = upper_names row.name four.1;
      kind_short = grind (arith, nat_tests);
      kinds = upper_names row.kind six.1;
      low = grind (arith, nat_tests);
      most = grind (arith, nat_tests);
    }

pub rows_form : (c : Catalogue) → IsCatalogue c → (directory : ℕ) → list_all (is_row (length c.directories)) (rows_of c directory) ≡ true
rows_form c is_catalogue directory =
    all_filter (is_row (length c.directories)) (λ (row : FileRow). row.directory == directory) c.rows is_catalogue.rows_within

-- the row of the highest generation of a name and a type
pub record Row (c : Catalogue) (directory : ℕ) (deleted : Bool) (name kind : List ℕ) (generation : ℕ) : Type 0 where
  pub row : FileRow
  pub form : RowForm row
  pub marked : agree row.deleted deleted ≡ true
  pub name_same : lower row.name ≡ lower name
  pub kind_same : lower row.kind ≡ lower kind
  pub generation_same : row.generation ≡ generation
  pub any : (test : FileRow → Bool) → test row ≡ true → list_any test (rows_of c directory) ≡ true

pub highest_row : (c : Catalogue) → IsCatalogue c → (directory : ℕ) (deleted : Bool) (name kind : List ℕ) (generation : ℕ)
    → highest (rows_of c directory) deleted name kind ≡ Some generation → Row c directory deleted name kind generation
highest_row c is_catalogue directory deleted name kind generation is =
    let comes = highest_comes FileRow (generation_like deleted name kind) (rows_of c directory) generation is in
    by comes (agree comes.x.deleted deleted && (equals comes.x.name name && equals comes.x.kind kind)) refl comes.gives
  where
    by : (comes : Comes FileRow ℕ (generation_like deleted name kind) (rows_of c directory) generation) → (test : Bool)
        → (agree comes.x.deleted deleted && (equals comes.x.name name && equals comes.x.kind kind)) ≡ test
        → (if test then Some comes.x.generation else None) ≡ Some generation → Row c directory deleted name kind generation
    by comes false passes gives = cc
    by comes true passes gives =
        let first = and_parts (agree comes.x.deleted deleted) (equals comes.x.name name && equals comes.x.kind kind) passes in
        let second = and_parts (equals comes.x.name name) (equals comes.x.kind kind) first.1 in
        let same : comes.x.generation ≡ generation = cc in
        record {
          row = comes.x;
          form = row_form (length c.directories) comes.x (comes.all (is_row (length c.directories)) (rows_form c is_catalogue directory));
          marked = first.0;
          name_same = lower_same comes.x.name name second.0;
          kind_same = lower_same comes.x.kind kind second.1;
          generation_same = same;
          any = comes.any;
        }
