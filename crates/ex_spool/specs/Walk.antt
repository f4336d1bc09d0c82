-- Rows that are put one after the other, after so many of a page.
use Rattle.std.specs.Prelude.{ℕ, ◌+◌, ◌==◌, Bool, true, false, List, [], ◌∷◌, ◌++◌, if◌then◌else◌}
use Rattle.ex_spool.specs.Pages.{form_feed, row_text}
use Rattle.ex_spool.specs.declared.body.TheConstants.{PAGE_ROWS}

-- the end of a page, where it is one
abbrev pub feed_if : Bool → List ℕ
feed_if true = form_feed
feed_if false = []

-- how many rows the page has after one more: none, where that fills it
abbrev pub next_row : ℕ → ℕ
next_row count = if count + 1 == PAGE_ROWS then 0 else count + 1

-- rows after so many, with the ends of the pages that they fill
abbrev pub rows_after : ℕ → List (List ℕ) → List ℕ
rows_after count [] = []
rows_after count (row ∷ rows) =
    (row_text row ++ feed_if (count + 1 == PAGE_ROWS)) ++ rows_after (next_row count) rows

-- how many rows the page has after them
abbrev pub count_after : ℕ → List (List ℕ) → ℕ
count_after count [] = count
count_after count (row ∷ rows) = count_after (next_row count) rows
