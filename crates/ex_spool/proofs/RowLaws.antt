-- The rows of a line, and those of a file.
-- A row is an array, written by place: take of what was written is known, and a further byte is take_more_set.
use Rattle.std.proofs.Common.{◌≡◌, ℕ, ◌+◌, ◌-◌, ◌==◌, ◌<◌, ◌≤◌, ◌≢◌, Bool, true, false, List, [], ◌∷◌, ◌++◌, length, map, take, drop, set, get_or, refl, sym, ap, ap₂, ◌∙◌, arith, append_assoc, length-drop, length-set}
use Rattle.std.specs.List.{flat_map}
use Rattle.std.proofs.lemmas.Bool.{eqb-false, eqb-true}
use Rattle.std.proofs.lemmas.List.{append-nil, length-take-le, take-append-drop, map-append, take-set, take_more, take_more_set}
use Rattle.cm_text.specs.Lines.{lines}
use Rattle.cm_text.specs.ScreenBytes.{end_of_line, printing_byte}
use Rattle.ex_spool.specs.Pages.{form_feed, line_rows, pieces, printed, row_text, rows_of}
use Rattle.ex_spool.specs.Parts.{parts, parts_after}
use Rattle.ex_spool.specs.Walk.{count_after, feed_if, next_row, rows_after}
use Rattle.ex_spool.specs.declared.body.TheConstants.{PAGE_ROWS}
use Rattle.ex_spool.proofs.PartLaws.{part_full, part_short}

-- a line that is not empty is in parts
pieces_some : (width : ℕ) (line : List ℕ) → 0 < length line → pieces width line ≡ parts_after width [] line
unfolding pieces parts
pieces_some width [] some = absurd (omega (arith, some))
pieces_some width (byte ∷ line) some = refl

-- a line that has more bytes than fit a row goes on after the first
pub row_more : (width : ℕ) (line : List ℕ) → 0 < width → width < length line
    → line_rows width line ≡ printed (take width line) ∷ line_rows width (drop width line)
row_more width line some more =
    let size : length (take width line) ≡ width = length-take-le width line (omega (arith, more)) in
    let left : length (drop width line) ≡ length line - width = length-drop width line in
    let cut : pieces width line ≡ take width line ∷ pieces width (drop width line) =
    pieces_some width line (omega (arith, more))
    ∙ ap (λ (it : List ℕ). parts_after width [] it) (sym (take-append-drop width line))
    ∙ part_full width [] (take width line) (drop width line) (omega (arith, some, size)) (omega (arith, size))
    ∙ ap (λ (it : List (List ℕ)). take width line ∷ it)
    (sym (pieces_some width (drop width line) (omega (arith, more, left)))) in
    ap (λ (it : List (List ℕ)). map printed it) cut

-- one that fits is one row
one_piece : (width : ℕ) (line : List ℕ) → 0 < width → length line ≤ width → pieces width line ≡ line ∷ []
unfolding pieces parts
one_piece width [] some fits = refl
one_piece width (byte ∷ line) some fits = by (length (byte ∷ line) == width) refl
  where
    by : (test : Bool) → (length (byte ∷ line) == width) ≡ test → parts_after width [] (byte ∷ line) ≡ (byte ∷ line) ∷ []
    by true is =
        let full : length (byte ∷ line) ≡ width = eqb-true (length (byte ∷ line)) width is in
        ap (λ (it : List ℕ). parts_after width [] it) (sym (append-nil (byte ∷ line)))
        ∙ part_full width [] (byte ∷ line) [] (omega arith) (omega (arith, full))
    by false is =
        let other : length (byte ∷ line) ≢ width = eqb-false (length (byte ∷ line)) width is in
        part_short width [] (byte ∷ line) (omega (arith, fits, other))

pub row_last : (width : ℕ) (line : List ℕ) → 0 < width → length line ≤ width → line_rows width line ≡ printed line ∷ []
row_last width line some fits = ap (λ (it : List (List ℕ)). map printed it) (one_piece width line some fits)

-- the rows of the first line, and those of the others
pub rows_more : (width : ℕ) (bytes line rest : List ℕ) → lines bytes ≡ line ∷ lines rest
    → rows_of width bytes ≡ line_rows width line ++ rows_of width rest
unfolding rows_of
rows_more width bytes line rest is = ap (λ (it : List (List ℕ)). flat_map (line_rows width) it) is

pub rows_none : (width : ℕ) (bytes : List ℕ) → lines bytes ≡ [] → rows_of width bytes ≡ []
unfolding rows_of
rows_none width bytes is = ap (λ (it : List (List ℕ)). flat_map (line_rows width) it) is

-- rows that are put after others
pub rows_append : (count : ℕ) (first second : List (List ℕ))
    → rows_after count (first ++ second) ≡ rows_after count first ++ rows_after (count_after count first) second
rows_append count [] second = refl
rows_append count (row ∷ first) second =
    let here : List ℕ = row_text row ++ feed_if (count + 1 == PAGE_ROWS) in
    ap (λ (it : List ℕ). here ++ it) (rows_append (next_row count) first second)
    ∙ sym (append_assoc here (rows_after (next_row count) first)
    (rows_after (count_after (next_row count) first) second))

pub count_append : (count : ℕ) (first second : List (List ℕ))
    → count_after count (first ++ second) ≡ count_after (count_after count first) second
count_append count [] second = refl
count_append count (row ∷ first) second = count_append (next_row count) first second

-- one byte more is printed
pub byte_more : (row text : List ℕ) (at byte : ℕ) → at < length row → at < length text → byte ≡ printing_byte (get_or text at 0)
    → take at row ≡ printed (take at text) → take (at + 1) (set row at byte) ≡ printed (take (at + 1) text)
byte_more row text at byte within inside is begun =
    take_more_set row at byte within
    ∙ ap₂ (λ (first : List ℕ) (last : ℕ). first ++ last ∷ []) begun is
    ∙ sym (map-append printing_byte (take at text) (get_or text at 0 ∷ []))
    ∙ ap printed (sym (take_more text at 0 inside))

-- the end of a row, and that of its page, after it
module _ (row text : List ℕ) (n : ℕ) (room : n + 2 < length row) (begun : take n row ≡ printed text) where
  abbrev first : List ℕ
  first = set row n 13

  abbrev second : List ℕ
  second = set first (n + 1) 10

  abbrev third : List ℕ
  third = set second (n + 2) 12

  two_more : take ((n + 1) + 1) second ≡ row_text (printed text)
  unfolding row_text end_of_line
  two_more =
      take_more_set first (n + 1) 10 (omega (arith, room, length-set row n 13))
      ∙ ap (λ (it : List ℕ). it ++ 10 ∷ []) (take_more_set row n 13 (omega (arith, room)))
      ∙ append_assoc (take n row) (13 ∷ []) (10 ∷ [])
      ∙ ap (λ (it : List ℕ). it ++ 13 ∷ 10 ∷ []) begun

  pub row_ended : take (n + 2) third ≡ row_text (printed text)
  row_ended =
      take-set second (n + 2) 12 ∙ ap (λ (k : ℕ). take k second) (omega arith) ∙ two_more

  pub page_ended : take (n + 3) third ≡ row_text (printed text) ++ form_feed
  unfolding form_feed
  page_ended =
      ap (λ (k : ℕ). take k third) (omega arith)
      ∙ take_more_set second (n + 2) 12 (omega (arith, room, length-set row n 13, length-set first (n + 1) 10))
      ∙ ap (λ (it : List ℕ). it ++ 12 ∷ []) (ap (λ (k : ℕ). take k second) (omega arith) ∙ two_more)

-- after the first piece of a line what is left of it is left to be put
pub piece_left : (width : ℕ) (line : List ℕ) (count : ℕ) (front back : List ℕ) (next : ℕ) → 0 < width → width < length line
    → front ≡ take width line → back ≡ drop width line → next ≡ next_row count
    → rows_after count (line_rows width line)
    ≡ (row_text (printed front) ++ feed_if (count + 1 == PAGE_ROWS)) ++ rows_after next (line_rows width back)
piece_left width line count front back next some more is rest on =
    rw (is, rest, on) (ap (λ (it : List (List ℕ)). rows_after count it) (row_more width line some more))

pub piece_counts : (width : ℕ) (line : List ℕ) (count : ℕ) (back : List ℕ) (next : ℕ) → 0 < width → width < length line
    → back ≡ drop width line → next ≡ next_row count
    → count_after next (line_rows width back) ≡ count_after count (line_rows width line)
piece_counts width line count back next some more rest on =
    rw (rest, on) (sym (ap (λ (it : List (List ℕ)). count_after count it) (row_more width line some more)))

-- and after the last nothing
pub end_left : (width : ℕ) (line : List ℕ) (count : ℕ) → 0 < width → length line ≤ width
    → rows_after count (line_rows width line) ≡ (row_text (printed line) ++ feed_if (count + 1 == PAGE_ROWS)) ++ []
end_left width line count some fits =
    ap (λ (it : List (List ℕ)). rows_after count it) (row_last width line some fits)

pub end_counts : (width : ℕ) (line : List ℕ) (count : ℕ) → 0 < width → length line ≤ width
    → next_row count ≡ count_after count (line_rows width line)
end_counts width line count some fits =
    sym (ap (λ (it : List (List ℕ)). count_after count it) (row_last width line some fits))

-- the first line and the rest are what a cut at two places gives
pub line_cut : (bytes line rest : List ℕ) (end next : ℕ) → lines bytes ≡ take end bytes ∷ lines (drop next bytes)
    → line ≡ take end bytes → rest ≡ drop next bytes → lines bytes ≡ line ∷ lines rest
line_cut bytes line rest end next is front back = rw (front, back) is

-- after the first line those of the others are left
pub line_left : (width : ℕ) (bytes line rest : List ℕ) (count : ℕ) → lines bytes ≡ line ∷ lines rest
    → rows_after count (rows_of width bytes)
    ≡ rows_after count (line_rows width line) ++ rows_after (count_after count (line_rows width line)) (rows_of width rest)
line_left width bytes line rest count is =
    ap (λ (it : List (List ℕ)). rows_after count it) (rows_more width bytes line rest is)
    ∙ rows_append count (line_rows width line) (rows_of width rest)

pub line_counts : (width : ℕ) (bytes line rest : List ℕ) (count : ℕ) → lines bytes ≡ line ∷ lines rest
    → count_after (count_after count (line_rows width line)) (rows_of width rest) ≡ count_after count (rows_of width bytes)
line_counts width bytes line rest count is =
    sym (ap (λ (it : List (List ℕ)). count_after count it) (rows_more width bytes line rest is)
    ∙ count_append count (line_rows width line) (rows_of width rest))
