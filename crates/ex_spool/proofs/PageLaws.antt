-- The pages of rows, and the rows with the ends of the pages between them.
-- No loop knows of pages: loops put rows with the ends of pages (rows_behind) and count rows (count_behind), and one
-- induction makes it pages (all_text). That the pages are put is using(body_written), so that edits meet the clause.
use Rattle.std.proofs.Common.{◌≡◌, ℕ, ◌+◌, ◌==◌, Bool, true, false, not, List, [], ◌∷◌, ◌++◌, length, refl, sym, ap, ap₂, ◌∙◌, subst, append_assoc, length-append}
use Rattle.std.specs.List.{flat_map}
use Rattle.std.proofs.lemmas.Grind.{flat_map-append}
use Rattle.std.proofs.lemmas.List.{append-nil}
use Rattle.cm_lists.proofs.Numbers.{suc_is_not_zero}
use Rattle.cm_io.specs.Writer.{Writes}
use Rattle.cm_io.specs.declared.sink.Sink.{Ghosts}
use Rattle.cm_io.specs.declared.writer.Writer.{Writer}
use Rattle.cm_io.proofs.Texts.{writes_both}
use Rattle.ex_spool.specs.Pages.{body_text, form_feed, page_text, row_text, rows_of}
use Rattle.ex_spool.specs.Parts.{last_part, parts, parts_after}
use Rattle.ex_spool.specs.Walk.{count_after, feed_if, rows_after}
use Rattle.ex_spool.specs.declared.body.TheConstants.{PAGE_ROWS}

-- the rows that are left at the end are a page, where there are any
end_text : (begun : List (List ℕ))
    → flat_map page_text (last_part begun) ≡ flat_map row_text begun ++ feed_if (not (length begun == 0))
unfolding page_text
end_text [] = refl
end_text (row ∷ begun) =
    append-nil (flat_map row_text (row ∷ begun) ++ form_feed)
    ∙ ap (λ (test : Bool). flat_map row_text (row ∷ begun) ++ feed_if (not test)) (sym (suc_is_not_zero (length begun)))

-- one row more
row_text_more : (begun : List (List ℕ)) (row : List ℕ)
    → flat_map row_text (begun ++ row ∷ []) ≡ flat_map row_text begun ++ row_text row
row_text_more begun row =
    flat_map-append row_text begun (row ∷ []) ∙ ap (λ (it : List ℕ). flat_map row_text begun ++ it) (append-nil (row_text row))

-- texts in other brackets
brackets : (a b c d e : List ℕ) → ((a ++ b) ++ c) ++ (d ++ e) ≡ a ++ (((b ++ c) ++ d) ++ e)
brackets a b c d e =
    append_assoc (a ++ b) c (d ++ e) ∙ append_assoc a b (c ++ (d ++ e))
    ∙ ap (λ (it : List ℕ). a ++ it) (sym (append_assoc b c (d ++ e)) ∙ sym (append_assoc (b ++ c) d e))

brackets_without : (a b d e : List ℕ) → (a ++ b) ++ (d ++ e) ≡ a ++ (((b ++ []) ++ d) ++ e)
brackets_without a b d e =
    append_assoc a b (d ++ e)
    ∙ ap (λ (it : List ℕ). a ++ it)
    (ap (λ (it : List ℕ). it ++ (d ++ e)) (sym (append-nil b)) ∙ sym (append_assoc (b ++ []) d e))

-- the pages of rows, of which the first page is begun
all_text : (begun rows : List (List ℕ)) (count : ℕ) → length begun ≡ count
    → flat_map page_text (parts_after PAGE_ROWS begun rows)
    ≡ flat_map row_text begun ++ (rows_after count rows ++ feed_if (not (count_after count rows == 0)))
unfolding page_text
all_text begun [] count is =
    end_text begun ∙ ap (λ (n : ℕ). flat_map row_text begun ++ feed_if (not (n == 0))) is
all_text begun (row ∷ rows) count is =
    by (count + 1 == PAGE_ROWS) refl (all_text [] rows 0 refl)
    (all_text (begun ++ row ∷ []) rows (count + 1) (length-append begun (row ∷ []) ∙ ap (λ (n : ℕ). n + 1) is))
  where
    by : (test : Bool) → (count + 1 == PAGE_ROWS) ≡ test
        → flat_map page_text (parts_after PAGE_ROWS [] rows) ≡ rows_after 0 rows ++ feed_if (not (count_after 0 rows == 0))
        → flat_map page_text (parts_after PAGE_ROWS (begun ++ row ∷ []) rows)
        ≡ flat_map row_text (begun ++ row ∷ []) ++ (rows_after (count + 1) rows ++ feed_if (not (count_after (count + 1) rows == 0)))
        → flat_map page_text (parts_after PAGE_ROWS begun (row ∷ rows))
        ≡ flat_map row_text begun ++ (rows_after count (row ∷ rows) ++ feed_if (not (count_after count (row ∷ rows) == 0)))
    by true test anew on =
        rw (is, test) (ap₂ (λ (first rest : List ℕ). (first ++ form_feed) ++ rest) (row_text_more begun row) anew
        ∙ brackets (flat_map row_text begun) (row_text row) form_feed (rows_after 0 rows) (feed_if (not (count_after 0 rows == 0))))
    by false test anew on =
        rw (is, test) (on ∙ ap (λ (first : List ℕ). first ++ (rows_after (count + 1) rows ++ feed_if (not (count_after (count + 1) rows == 0)))) (row_text_more begun row)
        ∙ brackets_without (flat_map row_text begun) (row_text row) (rows_after (count + 1) rows) (feed_if (not (count_after (count + 1) rows == 0))))

-- the pages of a file
body_is : (width : ℕ) (bytes : List ℕ)
    → body_text width bytes
    ≡ rows_after 0 (rows_of width bytes) ++ feed_if (not (count_after 0 (rows_of width bytes) == 0))
unfolding body_text parts
body_is width bytes = all_text [] (rows_of width bytes) 0 refl

-- [page] they are written where the rows are, and then the end of the last page
pub body_written : {T : Type 0} (s : Ghosts T) (a b c : Writer T) (width : ℕ) (bytes feed : List ℕ) (count : ℕ)
    → Writes s b c feed → Writes s a b (rows_after 0 (rows_of width bytes))
    → feed ≡ feed_if (not (count == 0)) → count ≡ count_after 0 (rows_of width bytes)
    → Writes s a c (body_text width bytes)
body_written s a b c width bytes feed count late early ends counts =
    subst (λ (text : List ℕ). Writes s a c text)
    (ap (λ (it : List ℕ). rows_after 0 (rows_of width bytes) ++ it)
    (ends ∙ ap (λ (n : ℕ). feed_if (not (n == 0))) counts) ∙ sym (body_is width bytes))
    (writes_both s a b c (rows_after 0 (rows_of width bytes)) feed late early)
