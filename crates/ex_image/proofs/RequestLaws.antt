-- The line of an entry of the print queue: what is read of it is what it was written for, and what is written is read.
use Rattle.std.proofs.Common.{◌≡◌, ℕ, ℤ, true, List, ◌∷◌, ◌++◌, codes, Option, Ok, refl}
use Rattle.std.specs.Fmt.{decimal}
use Rattle.std.proofs.lemmas.Bool.{and_from, and_parts}
use Rattle.cm_files.specs.Catalogue.{is_directory_name}
use Rattle.ex_store.specs.declared.key.FullName.{FullName}
use Rattle.ex_store.specs.declared.queue.QueueEntry.{QueueEntry}
use Rattle.ex_store.specs.Forms.{form_text}
use Rattle.ex_store.specs.WellFormed.{is_file_name}
use Rattle.cm_io.specs.declared.status.Kind.TheVariants.{Form}
use Rattle.ex_image.specs.declared.version.Version.{Version}
use Rattle.ex_image.specs.Fields.{is_note}
use Rattle.ex_image.specs.Grammar.{is_shaped, is_short, is_short_day}
use Rattle.ex_image.specs.Lines.{request_line}
use Rattle.ex_image.specs.Record.{Entry, Request, after_text, file_text}
use Rattle.ex_image.proofs.FieldLaws.{directory_spelling, job_spelling, note_spelling, number_spelling}
use Rattle.ex_image.proofs.FileLaws.{IsFile, after_spelling, file_spelling, form_spelling, is_form}
use Rattle.ex_image.proofs.LineLaws.{IsLine, line_end}
use Rattle.ex_image.proofs.Spellings.{by_part, by_rest, part_again}

-- the entry that a line of the queue tells
abbrev entry_told : FullName → ℕ → ℕ → Option ℤ → List ℕ → List ℕ → QueueEntry
entry_told full copies form after job note =
    record { file = full; copies = copies; form = form; after = after; job = job; note = note }

-- what a line of the queue must be
pub record IsRequestShape (entry : QueueEntry) : Type 0 where
  pub directory : is_directory_name entry.file.key.directory ≡ true
  pub file : IsFile entry.file.key.directory entry.file
  pub copies : is_short entry.copies ≡ true
  pub form : is_form entry.form ≡ true
  pub after : is_short_day entry.after ≡ true
  pub job : is_file_name entry.job ≡ true
  pub note : is_note entry.note ≡ true

pub request_shape : (entry : QueueEntry) → is_shaped (Request entry) ≡ true → IsRequestShape entry
request_shape entry shape =
    let note = and_parts _ _ shape in
    let job = and_parts _ _ note.0 in
    let after = and_parts _ _ job.0 in
    let form = and_parts _ _ after.0 in
    let copies = and_parts _ _ form.0 in
    let generation = and_parts _ _ copies.0 in
    let kind = and_parts _ _ generation.0 in
    let name = and_parts _ _ kind.0 in
    record {
      directory = name.0;
      file = record { directory_is = refl; name = name.1; kind = kind.1; generation = generation.1 };
      copies = copies.1;
      form = form.1;
      after = after.1;
      job = job.1;
      note = note.1;
    }

pub request_shaped : (entry : QueueEntry) → IsRequestShape entry → is_shaped (Request entry) ≡ true
request_shaped entry shape =
    and_from _ _
    (and_from _ _
    (and_from _ _
    (and_from _ _
    (and_from _ _
    (and_from _ _
    (and_from _ _ (and_from _ _ shape.directory shape.file.name) shape.file.kind)
    shape.file.generation)
    shape.copies)
    shape.form)
    shape.after)
    shape.job)
    shape.note

told_shape : (directory : List ℕ) (full : FullName) (copies form : ℕ) (after : Option ℤ) (job note : List ℕ)
    → is_directory_name directory ≡ true → IsFile directory full → is_short copies ≡ true → is_form form ≡ true
    → is_short_day after ≡ true → is_file_name job ≡ true → is_note note ≡ true
    → IsRequestShape (entry_told full copies form after job note)
told_shape directory full copies form after job note named file many formed later by_job noted = record {
  directory = rw file.directory_is named;
  file = record { directory_is = refl; name = file.name; kind = file.kind; generation = file.generation };
  copies = many;
  form = formed;
  after = later;
  job = by_job;
  note = noted;
}

pub request_takes : (version : Version) (bytes : List ℕ) (entry : Entry) → request_line bytes ≡ Ok entry
    → IsLine version (codes "Q") bytes entry
unfolding request_line
request_takes version bytes entry is =
    by_part _ _ _ _ directory_spelling 32 Form bytes _ entry _ is λ directory files one named is.
    by_part _ _ _ _ (file_spelling directory) 32 Form files _ entry _ is λ full counts two file is.
    by_part _ _ _ _ number_spelling 32 Form counts _ entry _ is λ copies forms three many is.
    by_part _ _ _ _ form_spelling 32 Form forms _ entry _ is λ form days four formed is.
    by_part _ _ _ _ after_spelling 32 Form days _ entry _ is λ after jobs five later is.
    by_part _ _ _ _ job_spelling 32 Form jobs _ entry _ is λ job notes six by_job is.
    by_rest _ _ _ _ note_spelling notes _ entry _ is λ note seven noted is.
    line_end version (codes "Q") bytes (Request (entry_told full copies form after job note)) entry is (record {
      text = rw (one, two, three, four, five, six, seven, file.directory_is) refl;
      shape =
          request_shaped (entry_told full copies form after job note)
          (told_shape directory full copies form after job note named file many formed later by_job noted);
      written = tt;
    })

-- what follows the fields of the file
abbrev pub late_fields : QueueEntry → List ℕ
late_fields entry = form_text entry.form ++ 32 ∷ (after_text entry.after ++ 32 ∷ (entry.job ++ 32 ∷ entry.note))

pub request_again : (entry : QueueEntry) → IsRequestShape entry
    → request_line (entry.file.key.directory ++ 32 ∷ (file_text entry.file ++ 32 ∷ (decimal entry.copies
    ++ 32 ∷ late_fields entry))) ≡ Ok (Request entry)
unfolding request_line
request_again entry shape =
    rw (
      part_again _ _ _ _ directory_spelling 32 Form refl entry.file.key.directory
          (file_text entry.file ++ 32 ∷ (decimal entry.copies ++ 32 ∷ late_fields entry)) shape.directory,
      part_again _ _ _ _ (file_spelling entry.file.key.directory) 32 Form refl entry.file
          (decimal entry.copies ++ 32 ∷ late_fields entry) shape.file,
      part_again _ _ _ _ number_spelling 32 Form refl entry.copies (late_fields entry) shape.copies,
      part_again _ _ _ _ form_spelling 32 Form refl entry.form
          (after_text entry.after ++ 32 ∷ (entry.job ++ 32 ∷ entry.note)) shape.form,
      part_again _ _ _ _ after_spelling 32 Form refl entry.after (entry.job ++ 32 ∷ entry.note) shape.after,
      part_again _ _ _ _ job_spelling 32 Form refl entry.job entry.note shape.job,
      note_spelling.again entry.note shape.note,
    ) refl
