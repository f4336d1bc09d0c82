-- What bytes make of a screen that holds a text.
-- What bytes make of a screen that holds a text is one lemma for each kind of bytes, which is a field of IsDisplay.
use Rattle.std.proofs.Common.{◌≡◌, ℕ, zero, suc, ◌+◌, ◌-◌, true, List, [], ◌∷◌, ◌++◌, length, take, get_or, replicate, slice_set, ◌≤◌, refl, ap, sym, subst, ◌∙◌, arith, append_assoc, length-append}
use Rattle.std.proofs.lemmas.List.{append-nil, take_all, take_more}
use Rattle.cm_text.specs.ScreenBytes.{bell, rubout}
use Rattle.cm_io.specs.Display.{ArePrinted, IsDisplay, is_printed}
use Rattle.cm_io.specs.Pieces.{times}
use Rattle.tt_screen.specs.declared.row.TheConstants.{WIDTH}
use Rattle.tt_screen.specs.Grid.{Grid, blank_row, feed, feed_byte}
use Rattle.tt_screen.specs.Holds.{Holds, cells_of, row_of}
use Rattle.tt_screen.proofs.Feeds.{feed-append}

-- cells after a text that are written on
set_cells : (cells : ℕ) (text : List ℕ) (byte : ℕ) → slice_set (cells_of cells text) (length text) byte ≡ cells_of cells (text ++ byte ∷ [])
set_cells zero text byte = refl
set_cells (suc cells) [] byte = refl
set_cells (suc cells) (first ∷ text) byte = ap (λ row. first ∷ row) (set_cells cells text byte)

-- the same of a cell that is written on again
again_cells : (cells : ℕ) (text : List ℕ) (old byte : ℕ)
    → slice_set (cells_of cells (text ++ old ∷ [])) (length text) byte ≡ cells_of cells (text ++ byte ∷ [])
again_cells zero text old byte = refl
again_cells (suc cells) [] old byte = refl
again_cells (suc cells) (first ∷ text) old byte = ap (λ row. first ∷ row) (again_cells cells text old byte)

-- a space after a text leaves the row that it has without it
space_cells : (cells : ℕ) (text : List ℕ) → cells_of cells (text ++ 32 ∷ []) ≡ cells_of cells text
space_cells zero text = refl
space_cells (suc cells) [] = refl
space_cells (suc cells) (first ∷ text) = ap (λ row. first ∷ row) (space_cells cells text)

blank_cells : (cells : ℕ) → replicate cells 32 ≡ cells_of cells []
blank_cells zero = refl
blank_cells (suc cells) = ap (λ row. 32 ∷ row) (blank_cells cells)

blank_holds : blank_row ≡ row_of []
unfolding blank_row row_of
blank_holds = blank_cells WIDTH

-- a byte that is printed is added to the text
pub holds_byte : (grid : Grid) (text : List ℕ) (byte : ℕ) → is_printed byte ≡ true → Holds grid text
    → Holds (feed_byte grid byte) (text ++ byte ∷ [])
unfolding feed_byte row_of
holds_byte grid text byte printed holds = rw printed (record {
  last = ap (λ row. slice_set row grid.column byte) holds.last ∙ ap (λ column. slice_set (cells_of WIDTH text) column byte) holds.column ∙ set_cells WIDTH text byte;
  column = omega (arith, holds.column, length-append text (byte ∷ []));
})

-- and so do several
pub holds_bytes : (grid : Grid) (text bytes : List ℕ) → ArePrinted bytes → Holds grid text
    → Holds (feed grid bytes) (text ++ bytes)
holds_bytes grid text [] printed holds = subst (λ shown. Holds grid shown) (sym (append-nil text)) holds
holds_bytes grid text (byte ∷ bytes) printed holds =
    subst (λ shown. Holds (feed (feed_byte grid byte) bytes) shown) (append_assoc text (byte ∷ []) bytes)
    (holds_bytes (feed_byte grid byte) (text ++ byte ∷ []) bytes printed.1 (holds_byte grid text byte printed.0 holds))

-- a rubout takes the last byte off
holds_rubout : (grid : Grid) (text : List ℕ) (byte : ℕ) → Holds grid (text ++ byte ∷ []) → Holds (feed grid rubout) text
unfolding feed_byte is_printed row_of rubout
holds_rubout grid text byte holds =
    let column : grid.column - 1 ≡ length text = omega (arith, holds.column, length-append text (byte ∷ [])) in
    record {
      last =
          ap (λ row. slice_set row (grid.column - 1) 32) holds.last
          ∙ ap (λ column. slice_set (cells_of WIDTH (text ++ byte ∷ [])) column 32) column
          ∙ again_cells WIDTH text byte 32 ∙ space_cells WIDTH text;
      column = omega (arith, column);
    }

-- several rubouts take as many bytes off, where there are so many
pub holds_rubouts : (count : ℕ) (grid : Grid) (text : List ℕ) → count ≤ length text → Holds grid text
    → Holds (feed grid (times count rubout)) (take (length text - count) text)
unfolding times
holds_rubouts zero grid text few holds =
    subst (λ shown. Holds grid shown) (sym (take_all (length text - 0) text (omega arith))) holds
holds_rubouts (suc count) grid text few holds =
    let left : (length text - suc count) + 1 ≡ length text - count = omega arith in
    let more : take (length text - count) text ≡ take (length text - suc count) text ++ get_or text (length text - suc count) 0 ∷ [] =
    ap (λ n. take n text) (sym left) ∙ take_more text (length text - suc count) 0 (omega arith) in
    subst (λ (after : Grid). Holds after (take (length text - suc count) text)) (sym (feed-append grid (times count rubout) rubout))
    (holds_rubout (feed grid (times count rubout)) (take (length text - suc count) text) _
    (subst (λ shown. Holds (feed grid (times count rubout)) shown) more (holds_rubouts count grid text (omega arith) holds)))

-- a bell leaves the screen as it is
pub holds_bell : (grid : Grid) (text : List ℕ) → Holds grid text → Holds (feed grid bell) text
unfolding feed_byte is_printed bell
holds_bell grid text holds = holds

-- after a line feed the last row is blank
pub holds_none : (grid : Grid) (bytes : List ℕ) → Holds (feed grid (bytes ++ 10 ∷ [])) []
unfolding feed_byte is_printed
holds_none grid bytes =
    subst (λ (after : Grid). Holds after []) (sym (feed-append grid bytes (10 ∷ [])))
    (record { last = blank_holds; column = refl })

-- so a plain screen is a display
pub screen_is_a_display : IsDisplay feed Holds
screen_is_a_display = record {
  turns = feed-append;
  texts = holds_bytes;
  bells = holds_bell;
  rubouts = holds_rubouts;
  line_feeds = holds_none;
}
