-- What the spooler prints, and what it leaves.
use Rattle.std.specs.Prelude.{ℕ, zero, suc, ◌/◌, ℤ, pos, int_le, Bool, true, not, List, [], ◌∷◌, ◌++◌, filter, Option, None, Some, if◌then◌else◌}
use Rattle.std.specs.Fmt.{decimal}
use Rattle.std.specs.List.{flat_map}
use Rattle.std.specs.Option.{option_map}
use Rattle.ex_store.specs.Forms.{form_text}
use Rattle.ex_store.specs.Rows.{row_at}
use Rattle.ex_store.specs.State.{State}
use Rattle.ex_store.specs.declared.key.FullName.{FullName}
use Rattle.ex_store.specs.declared.queue.QueueEntry.{QueueEntry}
use Rattle.ex_spool.specs.Pages.{body_text, page_text, row_text}
use Rattle.ex_spool.specs.Texts.{before_copies, before_copy, before_file, before_form, before_job, before_note, dot, left_angle, not_there, right_angle}
use Rattle.ex_spool.specs.declared.due.TheConstants.{DAY_SECONDS}

-- an entry is due where it has no day, or its day has come
abbrev pub has_come : ℕ → Option ℤ → Bool
has_come moment None = true
has_come moment (Some day) = int_le day (pos (moment / DAY_SECONDS))

-- [due-entry]
abbrev pub is_due : ℕ → QueueEntry → Bool
is_due moment entry = has_come moment entry.after

-- how many bytes a row has, by the number of the form: NARROW, NORMAL and WIDE
abbrev pub width_of : ℕ → ℕ
width_of zero = 80
width_of (suc zero) = 132
width_of (suc (suc form)) = 200

-- <DIRECTORY>NAME.TYPE.GENERATION
unfoldable pub full_text : FullName → List ℕ
full_text full =
    left_angle ++ full.key.directory ++ right_angle ++ full.key.name ++ dot ++ full.key.kind ++ dot
    ++ decimal full.generation

-- the rows of a banner: the job, the file, the form, the number of the copy, and the note where there is one
abbrev pub note_rows : List ℕ → List (List ℕ)
note_rows [] = []
note_rows (byte ∷ note) = (before_note ++ byte ∷ note) ∷ []

unfoldable pub banner : QueueEntry → ℕ → List (List ℕ)
banner entry copy =
    (before_job ++ entry.job) ∷ (before_file ++ full_text entry.file) ∷ (before_form ++ form_text entry.form)
    ∷ (before_copy ++ decimal copy ++ before_copies ++ decimal entry.copies) ∷ note_rows entry.note

unfoldable pub note_text : List ℕ → List ℕ
note_text note = flat_map row_text (note_rows note)

-- a copy: the banner page, and the pages of the file
abbrev pub copy_text : QueueEntry → List ℕ → ℕ → List ℕ
copy_text entry bytes copy = page_text (banner entry copy) ++ body_text (width_of entry.form) bytes

-- so many copies, from the first on
unfoldable pub copies_text : QueueEntry → List ℕ → ℕ → List ℕ
copies_text entry bytes zero = []
copies_text entry bytes (suc copies) = copies_text entry bytes copies ++ copy_text entry bytes (suc copies)

-- the one page of an entry whose file is not there
unfoldable pub absent_text : QueueEntry → List ℕ
absent_text entry = page_text ((before_file ++ full_text entry.file ++ not_there) ∷ [])

-- the pages of an entry whose file has these bytes, or is not there
unfoldable pub entry_text : QueueEntry → Option (List ℕ) → List ℕ
entry_text entry None = absent_text entry
entry_text entry (Some bytes) = copies_text entry bytes entry.copies

-- what the file of an entry holds, marked or not
abbrev pub bytes_of : State → QueueEntry → Option (List ℕ)
bytes_of state entry = option_map (λ row. row.file.bytes) (row_at entry.file state.rows)

-- all pages of an entry
abbrev pub pages_of : State → QueueEntry → List ℕ
pages_of state entry = entry_text entry (bytes_of state entry)

-- the pages of all entries that are due, in the order of the queue
unfoldable pub pages : ℕ → State → List ℕ
pages moment state = flat_map (pages_of state) (filter (is_due moment) state.queue)

-- the same, entry by entry
unfoldable pub due_text : ℕ → State → QueueEntry → List ℕ
due_text moment state entry = if is_due moment entry then pages_of state entry else []

-- [printed-entry] the state without the entries that are due
abbrev pub without_due : ℕ → State → State
without_due moment state = record state { queue = filter (λ entry. not (is_due moment entry)) state.queue }
