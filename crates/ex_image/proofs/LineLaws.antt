-- The lines of an image: what is read of a line is what it was written for, and what is written is read.
use Rattle.std.proofs.Common.{◌≡◌, ℕ, Bool, true, List, [], ◌∷◌, ◌++◌, codes, Ok, refl, subst}
use Rattle.std.specs.Fmt.{decimal}
use Rattle.std.proofs.lemmas.Bool.{and_from, and_parts}
use Rattle.cm_lists.proofs.Pieces.{nil_of_length}
use Rattle.cm_files.specs.Catalogue.{is_directory_name}
use Rattle.ex_store.specs.declared.key.FullName.{FullName}
use Rattle.ex_store.specs.declared.row.Row.{Row}
use Rattle.ex_store.specs.Rows.{full_of}
use Rattle.cm_io.specs.declared.status.Kind.TheVariants.{Form}
use Rattle.ex_image.specs.declared.version.Version.{Version}
use Rattle.ex_image.specs.Fields.{is_logical}
use Rattle.ex_image.specs.Grammar.{IsWrittenIn, is_shaped, is_short, is_stamp}
use Rattle.ex_image.specs.Lines.{connected_line, directory_line, file_line, logical_line, row_of}
use Rattle.ex_image.specs.Record.{Entry, Directory, Connected, Logical, File, Stamp, file_text, line_text, mark_text, stamp_of, stamp_text}
use Rattle.ex_image.proofs.FieldLaws.{directory_spelling, logical_spelling, number_spelling}
use Rattle.ex_image.proofs.FileLaws.{IsFile, file_spelling, mark_spelling}
use Rattle.ex_image.proofs.StampLaws.{by_stamp, stamp_again}
use Rattle.ex_image.proofs.Spellings.{by_part, by_rest, done, part_again}

-- after a letter these bytes are the line of an entry, in a version
pub record IsLine (version : Version) (letter bytes : List ℕ) (entry : Entry) : Type 0 where
  pub text : letter ++ 32 ∷ bytes ≡ line_text entry
  pub shape : is_shaped entry ≡ true
  pub written : IsWrittenIn version entry

-- what was made of the fields is what was read
pub line_end : (version : Version) (letter bytes : List ℕ) (entry read : Entry) → done entry ≡ done read
    → IsLine version letter bytes entry → IsLine version letter bytes read
line_end version letter bytes entry read is line =
    let same : entry ≡ read = cc in subst (IsLine version letter bytes) same line

pub directory_takes : (version : Version) (bytes : List ℕ) (entry : Entry) → directory_line bytes ≡ Ok entry
    → IsLine version (codes "D") bytes entry
unfolding directory_line
directory_takes version bytes entry is =
    by_part _ _ _ _ directory_spelling 32 Form bytes _ entry _ is λ name rest one named is.
    by_rest _ _ _ _ number_spelling rest _ entry _ is λ retention two short is.
    line_end version (codes "D") bytes (Directory name retention) entry is
    (record { text = rw (one, two) refl; shape = and_from _ _ named short; written = tt })

pub directory_again : (name : List ℕ) (retention : ℕ) → is_shaped (Directory name retention) ≡ true
    → directory_line (name ++ 32 ∷ decimal retention) ≡ Ok (Directory name retention)
unfolding directory_line
directory_again name retention shape =
    let both = and_parts (is_directory_name name) (is_short retention) shape in
    rw (
      part_again _ _ _ _ directory_spelling 32 Form refl name (decimal retention) both.0,
      number_spelling.again retention both.1,
    ) refl

pub connected_takes : (version : Version) (bytes : List ℕ) (entry : Entry) → connected_line bytes ≡ Ok entry
    → IsLine version (codes "C") bytes entry
unfolding connected_line
connected_takes version bytes entry is =
    by_rest _ _ _ _ directory_spelling bytes _ entry _ is λ name one named is.
    line_end version (codes "C") bytes (Connected name) entry is
    (record { text = rw one refl; shape = named; written = tt })

pub connected_again : (name : List ℕ) → is_shaped (Connected name) ≡ true → connected_line name ≡ Ok (Connected name)
unfolding connected_line
connected_again name shape = rw (directory_spelling.again name shape) refl

pub logical_takes : (version : Version) (bytes : List ℕ) (entry : Entry) → logical_line bytes ≡ Ok entry
    → IsLine version (codes "L") bytes entry
unfolding logical_line
logical_takes version bytes entry is =
    by_part _ _ _ _ logical_spelling 32 Form bytes _ entry _ is λ name rest one named is.
    by_rest _ _ _ _ directory_spelling rest _ entry _ is λ directory two short is.
    line_end version (codes "L") bytes (Logical name directory) entry is
    (record { text = rw (one, two) refl; shape = and_from _ _ named short; written = tt })

pub logical_again : (name directory : List ℕ) → is_shaped (Logical name directory) ≡ true
    → logical_line (name ++ 32 ∷ directory) ≡ Ok (Logical name directory)
unfolding logical_line
logical_again name directory shape =
    let both = and_parts (is_logical name) (is_directory_name directory) shape in
    rw (
      part_again _ _ _ _ logical_spelling 32 Form refl name directory both.0,
      directory_spelling.again directory both.1,
    ) refl

-- what a line of a file must be
pub record IsFileShape (version : Version) (row : Row) (size : ℕ) : Type 0 where
  pub directory : is_directory_name row.key.directory ≡ true
  pub file : IsFile row.key.directory (full_of row)
  pub stamp : is_stamp version (stamp_of row) ≡ true
  pub size_short : is_short size ≡ true
  pub blank : row.file.bytes ≡ []

pub file_shape : (version : Version) (row : Row) (size : ℕ) → is_shaped (File version row size) ≡ true
    → IsFileShape version row size
file_shape version row size shape =
    let blank = and_parts _ _ shape in
    let short = and_parts _ _ blank.0 in
    let stamp = and_parts _ _ short.0 in
    let generation = and_parts _ _ stamp.0 in
    let kind = and_parts _ _ generation.0 in
    let name = and_parts _ _ kind.0 in
    record {
      directory = name.0;
      file = record { directory_is = refl; name = name.1; kind = kind.1; generation = generation.1 };
      stamp = stamp.1;
      size_short = short.1;
      blank = nil_of_length row.file.bytes blank.1;
    }

file_shaped : (version : Version) (directory : List ℕ) (full : FullName) (mark : Bool) (stamp : Stamp) (size : ℕ)
    → is_directory_name directory ≡ true → IsFile directory full → is_stamp version stamp ≡ true
    → is_short size ≡ true → is_shaped (File version (row_of full mark stamp) size) ≡ true
file_shaped version directory full mark stamp size named file before short =
    let inside : is_directory_name full.key.directory ≡ true = rw file.directory_is named in
    and_from _ _
    (and_from _ _
    (and_from _ _
    (and_from _ _ (and_from _ _ (and_from _ _ inside file.name) file.kind) file.generation)
    before)
    short)
    refl

pub file_takes : (version : Version) (bytes : List ℕ) (entry : Entry) → file_line version bytes ≡ Ok entry
    → IsLine version (codes "F") bytes entry
unfolding file_line
file_takes version bytes entry is =
    by_part _ _ _ _ directory_spelling 32 Form bytes _ entry _ is λ directory rest one named is.
    by_part _ _ _ _ (file_spelling directory) 32 Form rest _ entry _ is λ full after two file is.
    by_part _ _ _ _ mark_spelling 32 Form after _ entry _ is λ mark more three good is.
    by_stamp version more _ entry _ is λ stamp last four before is.
    by_rest _ _ _ _ number_spelling last _ entry _ is λ size five short is.
    line_end version (codes "F") bytes (File version (row_of full mark stamp) size) entry is (record {
      text = rw (one, two, three, four, five, file.directory_is) refl;
      shape = file_shaped version directory full mark stamp size named file before short;
      written = refl;
    })

pub file_again : (version : Version) (row : Row) (size : ℕ) → IsFileShape version row size
    → file_line version (row.key.directory ++ 32 ∷ (file_text (full_of row) ++ 32 ∷ (mark_text row.file.deleted
    ++ 32 ∷ (stamp_text version (stamp_of row) ++ 32 ∷ decimal size)))) ≡ Ok (File version row size)
unfolding file_line
file_again version row size shape =
    rw (
      part_again _ _ _ _ directory_spelling 32 Form refl row.key.directory
          (file_text (full_of row) ++ 32 ∷ (mark_text row.file.deleted
          ++ 32 ∷ (stamp_text version (stamp_of row) ++ 32 ∷ decimal size))) shape.directory,
      part_again _ _ _ _ (file_spelling row.key.directory) 32 Form refl (full_of row)
          (mark_text row.file.deleted ++ 32 ∷ (stamp_text version (stamp_of row) ++ 32 ∷ decimal size)) shape.file,
      part_again _ _ _ _ mark_spelling 32 Form refl row.file.deleted
          (stamp_text version (stamp_of row) ++ 32 ∷ decimal size) tt,
      stamp_again version (stamp_of row) (decimal size) shape.stamp,
      number_spelling.again size shape.size_short,
      ← shape.blank,
    ) refl
