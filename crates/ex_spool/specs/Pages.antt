-- The pages of a file that is printed.
use Rattle.std.specs.Prelude.{ℕ, List, [], ◌∷◌, ◌++◌, map}
use Rattle.std.specs.List.{flat_map}
use Rattle.cm_text.specs.Lines.{lines}
use Rattle.cm_text.specs.ScreenBytes.{end_of_line, printing_byte}
use Rattle.ex_spool.specs.Parts.{parts}
use Rattle.ex_spool.specs.declared.body.TheConstants.{PAGE_ROWS}

-- a text as it is printed: each byte that does not print as a dot
abbrev pub printed : List ℕ → List ℕ
printed text = map printing_byte text

-- the pieces of a line, each of so many bytes, and the last may have fewer; an empty line is one empty piece
unfoldable pub pieces : ℕ → List ℕ → List (List ℕ)
pieces width [] = [] ∷ []
pieces width (byte ∷ line) = parts width (byte ∷ line)

-- each is a row
abbrev pub line_rows : ℕ → List ℕ → List (List ℕ)
line_rows width line = map printed (pieces width line)

-- the rows of a file are those of its lines
unfoldable pub rows_of : ℕ → List ℕ → List (List ℕ)
rows_of width bytes = flat_map (line_rows width) (lines bytes)

-- what ends a page
unfoldable pub form_feed : List ℕ
form_feed = 12 ∷ []

-- a page with its rows
unfoldable pub row_text : List ℕ → List ℕ
row_text row = row ++ end_of_line

unfoldable pub page_text : List (List ℕ) → List ℕ
page_text rows = flat_map row_text rows ++ form_feed

-- [page] the pages of a file: 60 of its rows on each, and the last may have fewer; without rows there is none
unfoldable pub body_text : ℕ → List ℕ → List ℕ
body_text width bytes = flat_map page_text (parts PAGE_ROWS (rows_of width bytes))
