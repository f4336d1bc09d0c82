-- Any line of an image: what is read of it is what it was written for, and what is written is read.
use Rattle.std.proofs.Common.{◌≡◌, ℕ, true, List, ◌∷◌, ◌++◌, codes, Ok, refl, subst, ◌∙◌}
use Rattle.std.specs.Fmt.{decimal}
use Rattle.std.specs.List.{list_all}
use Rattle.std.proofs.lemmas.Bool.{and_parts}
use Rattle.cm_lists.proofs.Texts.{by_word}
use Rattle.cm_files.specs.Catalogue.{is_directory_name}
use Rattle.ex_store.specs.declared.row.Row.{Row}
use Rattle.ex_store.specs.Forms.{form_text}
use Rattle.ex_store.specs.Rows.{full_of}
use Rattle.cm_io.specs.declared.status.Kind.TheVariants.{Form}
use Rattle.ex_image.specs.declared.version.Version.{Version}
use Rattle.ex_image.specs.declared.version.Version.TheVariants as versions
use Rattle.ex_image.specs.Fields.{is_logical}
use Rattle.ex_image.specs.Grammar.{IsWrittenIn, is_shaped, is_short}
use Rattle.ex_image.specs.Lines.{entry_of, lettered}
use Rattle.ex_image.specs.Record.{Entry, Head, Directory, Connected, Logical, File, Request, End, after_text, file_text, head_text, line_text, mark_text, stamp_of, stamp_text}
use Rattle.ex_image.proofs.Cuts.{cut_again, cut_takes}
use Rattle.ex_image.proofs.FieldLaws.{directory_spelling, field_more, is_inside, job_spelling, logical_spelling, note_spelling, number_spelling, within}
use Rattle.ex_image.proofs.FileLaws.{after_spelling, file_spelling, form_spelling, mark_spelling}
use Rattle.ex_image.proofs.LineLaws.{IsFileShape, IsLine, connected_again, connected_takes, directory_again, directory_takes, file_again, file_shape, file_takes, logical_again, logical_takes}
use Rattle.ex_image.proofs.RequestLaws.{late_fields, request_again, request_shape, request_takes}
use Rattle.ex_image.proofs.Spellings.{IsSpelling, done, steps_of}
use Rattle.ex_image.proofs.StampLaws.{stamp_only}

-- an entry that may be read in a version
pub record IsEntry (version : Version) (entry : Entry) : Type 0 where
  pub shape : is_shaped entry ≡ true
  pub written : IsWrittenIn version entry

-- a line by its letter
lettered_takes : (version : Version) (letter bytes : List ℕ) (entry : Entry) → lettered version letter bytes ≡ Ok entry
    → IsLine version letter bytes entry
unfolding lettered
lettered_takes version letter bytes entry is =
    by_word letter (codes "D") _ _ (Ok entry) _ is (λ word is. rw word (directory_takes version bytes entry is)) λ is.
    by_word letter (codes "C") _ _ (Ok entry) _ is (λ word is. rw word (connected_takes version bytes entry is)) λ is.
    by_word letter (codes "L") _ _ (Ok entry) _ is (λ word is. rw word (logical_takes version bytes entry is)) λ is.
    by_word letter (codes "F") _ _ (Ok entry) _ is (λ word is. rw word (file_takes version bytes entry is)) λ is.
    by_word letter (codes "Q") _ _ (Ok entry) _ is (λ word is. rw word (request_takes version bytes entry is)) λ is.
    absurd (cc)

entry_takes : (version : Version) (line : List ℕ) (entry : Entry) → entry_of version line ≡ Ok entry
    → (line ≡ line_text entry) × IsEntry version entry
unfolding entry_of
entry_takes version line entry is =
    by_word line (head_text versions.One) _ _ (Ok entry) _ is (λ word is. whole (Head versions.One) word is refl tt) λ is.
    by_word line (head_text versions.Two) _ _ (Ok entry) _ is (λ word is. whole (Head versions.Two) word is refl tt) λ is.
    by_word line (codes "E") _ _ (Ok entry) _ is (λ word is. whole End word is refl tt) λ is.
    let step = steps_of _ _ _ is in
    let parts = cut_takes 32 Form line step.value step.first in
    let taken = lettered_takes version step.value.0 step.value.1 entry step.then in
    (parts.joined ∙ taken.text, record { shape = taken.shape; written = taken.written })
  where
    whole : (read : Entry) → line ≡ line_text read → done read ≡ done entry → is_shaped read ≡ true
        → IsWrittenIn version read → (line ≡ line_text entry) × IsEntry version entry
    whole read word is shape written =
        let same : read ≡ entry = cc in
        subst (λ entry. (line ≡ line_text entry) × IsEntry version entry) same
        (word, record { shape = shape; written = written })

-- the line of a file
filed_again : (version : Version) (row : Row) (size : ℕ) → IsFileShape version row size
    → entry_of version (line_text (File version row size)) ≡ Ok (File version row size)
unfolding entry_of lettered
filed_again version row size shape =
    rw (cut_again 32 Form (codes "F") (row.key.directory ++ 32 ∷ (file_text (full_of row)
    ++ 32 ∷ (mark_text row.file.deleted ++ 32 ∷ (stamp_text version (stamp_of row) ++ 32 ∷ decimal size)))) refl)
    (file_again version row size shape)

entry_again : (version : Version) (entry : Entry) → IsEntry version entry
    → entry_of version (line_text entry) ≡ Ok entry
unfolding entry_of lettered
entry_again version (Head versions.One) good = refl
entry_again version (Head versions.Two) good = refl
entry_again version (Directory name retention) good =
    rw (cut_again 32 Form (codes "D") (name ++ 32 ∷ decimal retention) refl)
    (directory_again name retention good.shape)
entry_again version (Connected name) good =
    rw (cut_again 32 Form (codes "C") name refl) (connected_again name good.shape)
entry_again version (Logical name directory) good =
    rw (cut_again 32 Form (codes "L") (name ++ 32 ∷ directory) refl) (logical_again name directory good.shape)
entry_again version (File written row size) good =
    subst (λ at. entry_of at (line_text (File written row size)) ≡ Ok (File written row size)) good.written
    (filed_again written row size (file_shape written row size good.shape))
entry_again version (Request entry) good =
    rw (cut_again 32 Form (codes "Q") (entry.file.key.directory ++ 32 ∷ (file_text entry.file
    ++ 32 ∷ (decimal entry.copies ++ 32 ∷ late_fields entry))) refl)
    (request_again entry (request_shape entry good.shape))
entry_again version End good = refl

entry_only : (entry : Entry) → is_shaped entry ≡ true → list_all is_inside (line_text entry) ≡ true
entry_only (Head versions.One) shape = refl
entry_only (Head versions.Two) shape = refl
entry_only (Directory name retention) shape =
    let both = and_parts (is_directory_name name) (is_short retention) shape in
    field_more (codes "D") (name ++ 32 ∷ decimal retention) refl
    (field_more name (decimal retention) (within directory_spelling name both.0) (within number_spelling retention both.1))
entry_only (Connected name) shape = within directory_spelling name shape
entry_only (Logical name directory) shape =
    let both = and_parts (is_logical name) (is_directory_name directory) shape in
    field_more name directory (within logical_spelling name both.0) (within directory_spelling directory both.1)
entry_only (File version row size) shape =
    let is = file_shape version row size shape in
    field_more row.key.directory _ (within directory_spelling row.key.directory is.directory)
    (field_more (file_text (full_of row)) _ (within (file_spelling row.key.directory) (full_of row) is.file)
    (field_more (mark_text row.file.deleted) _ (within mark_spelling row.file.deleted tt)
    (field_more (stamp_text version (stamp_of row)) (decimal size) (stamp_only version (stamp_of row) is.stamp)
    (within number_spelling size is.size_short))))
entry_only (Request entry) shape =
    let is = request_shape entry shape in
    field_more entry.file.key.directory _ (within directory_spelling entry.file.key.directory is.directory)
    (field_more (file_text entry.file) _ (within (file_spelling entry.file.key.directory) entry.file is.file)
    (field_more (decimal entry.copies) _ (within number_spelling entry.copies is.copies)
    (field_more (form_text entry.form) _ (within form_spelling entry.form is.form)
    (field_more (after_text entry.after) _ (within after_spelling entry.after is.after)
    (field_more entry.job entry.note (within job_spelling entry.job is.job) (note_spelling.only entry.note is.note))))))
entry_only End shape = refl

-- lines are read from just what is written, and have no line feed
pub entry_spelling : (version : Version) → IsSpelling (entry_of version) line_text (IsEntry version) is_inside
entry_spelling version = record {
  takes = entry_takes version;
  again = entry_again version;
  only = λ entry good. entry_only entry good.shape;
}
