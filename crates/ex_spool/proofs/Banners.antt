-- The rows of a banner, one after the other.
use Rattle.std.proofs.Common.{◌≡◌, ℕ, ◌==◌, true, false, List, [], ◌∷◌, ◌++◌, length, refl, sym, ap, ◌∙◌, arith, append_assoc}
use Rattle.std.specs.Fmt.{decimal}
use Rattle.std.proofs.lemmas.Bool.{eqb-false, eqb-true}
use Rattle.std.proofs.lemmas.List.{append-nil}
use Rattle.ex_store.specs.Forms.{form_text}
use Rattle.ex_store.specs.declared.queue.QueueEntry.{QueueEntry}
use Rattle.ex_spool.specs.Pages.{form_feed, page_text, row_text}
use Rattle.ex_spool.specs.Spool.{absent_text, banner, full_text, note_text}
use Rattle.ex_spool.specs.Texts.{before_copies, before_copy, before_file, before_form, before_job, before_note, not_there}

-- texts in other brackets
brackets : (a b c d e : List ℕ) → (((a ++ b) ++ c) ++ d) ++ e ≡ a ++ (b ++ (c ++ (d ++ e)))
brackets a b c d e =
    append_assoc ((a ++ b) ++ c) d e ∙ append_assoc (a ++ b) c (d ++ e) ∙ append_assoc a b (c ++ (d ++ e))

-- a note that is empty has no row
pub note_none : (note : List ℕ) → (length note == 0) ≡ true → note_text note ≡ []
unfolding note_text
note_none [] none = refl
note_none (byte ∷ note) none =
    let wrong : length (byte ∷ note) ≡ 0 = eqb-true (length (byte ∷ note)) 0 none in absurd (omega (arith, wrong))

-- any other has one
pub note_some : (note : List ℕ) → (length note == 0) ≡ false → note_text note ≡ row_text (before_note ++ note)
unfolding note_text
note_some [] some = absurd (eqb-false 0 0 some refl)
note_some (byte ∷ note) some = append-nil (row_text (before_note ++ byte ∷ note))

-- the rows of a banner, and the end of its page
pub banner_is : (entry : QueueEntry) (copy : ℕ)
    → row_text (before_job ++ entry.job) ++ row_text (before_file ++ full_text entry.file)
    ++ row_text (before_form ++ form_text entry.form)
    ++ row_text (before_copy ++ decimal copy ++ before_copies ++ decimal entry.copies)
    ++ note_text entry.note ++ form_feed
    ≡ page_text (banner entry copy)
unfolding page_text banner note_text
banner_is entry copy =
    ap (λ (it : List ℕ). it ++ form_feed)
    (brackets (row_text (before_job ++ entry.job)) (row_text (before_file ++ full_text entry.file))
    (row_text (before_form ++ form_text entry.form))
    (row_text (before_copy ++ decimal copy ++ before_copies ++ decimal entry.copies)) (note_text entry.note))

-- the page of a file that is not there
pub absent_is : (entry : QueueEntry)
    → row_text (before_file ++ full_text entry.file ++ not_there) ++ form_feed ≡ absent_text entry
unfolding absent_text page_text
absent_is entry =
    ap (λ (it : List ℕ). it ++ form_feed) (sym (append-nil (row_text (before_file ++ full_text entry.file ++ not_there))))
