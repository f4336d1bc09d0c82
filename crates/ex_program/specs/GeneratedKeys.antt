-- The keys of a generated run.
use Rattle.std.specs.Prelude.{ℕ, zero, suc, ◌==◌, ◌+◌, ◌*◌, ◌/◌, ◌%◌, ◌^◌, List, [], ◌∷◌, ◌++◌, codes, if◌then◌else◌}
use Rattle.std.specs.Fmt.{decimal}

-- each line has a number, which is computed from that of the line before it
abbrev pub next_number : ℕ → ℕ
next_number number = (1103515245 * number + 12345) % 2 ^ 31

-- of the six kinds of lines, and of the fifty files that they name, those of a number
abbrev pub kind_of : ℕ → ℕ
kind_of number = (number / 65536) % 6

abbrev pub file_of : ℕ → ℕ
file_of number = (number / 1024) % 50

-- the texts of the lines: a file is typed in with its line's position in it; files are listed; one is deleted, or
-- taken back; files are removed, with a typing error that is rubbed out; and something is told about, with a word
-- that is taken back
unfoldable pub copy_start : List ℕ
copy_start = codes "COPY TTY: F"

unfoldable pub copy_middle : List ℕ
copy_middle = codes ".TXT" ++ 13 ∷ codes "LINE "

unfoldable pub copy_end : List ℕ
copy_end = 13 ∷ 26 ∷ []

unfoldable pub list_start : List ℕ
list_start = codes "DIRECTORY F"

unfoldable pub list_end : List ℕ
list_end = codes ".*" ++ 13 ∷ []

unfoldable pub delete_start : List ℕ
delete_start = codes "DEL F"

unfoldable pub undelete_start : List ℕ
undelete_start = codes "UNDEL F"

unfoldable pub name_end : List ℕ
name_end = codes ".TXT" ++ 13 ∷ []

unfoldable pub expunge_keys : List ℕ
expunge_keys = codes "EXPX" ++ 127 ∷ 27 ∷ 13 ∷ []

unfoldable pub tell_keys : List ℕ
tell_keys = codes "INFX" ++ 23 ∷ (codes "INF" ++ 27 ∷ (codes "DIR" ++ 13 ∷ []))

unfoldable pub copy_keys : ℕ → ℕ → List ℕ
copy_keys position file = copy_start ++ (decimal file ++ (copy_middle ++ (decimal position ++ copy_end)))

-- the keys of the line at a position, counted from 1, by its kind and its file
unfoldable pub keys_by : ℕ → ℕ → ℕ → List ℕ
keys_by position file kind =
    if kind == 0 then copy_keys position file
    else (if kind == 1 then list_start ++ (decimal file ++ list_end)
    else (if kind == 2 then delete_start ++ (decimal file ++ name_end)
    else (if kind == 3 then undelete_start ++ (decimal file ++ name_end)
    else (if kind == 4 then expunge_keys
    else tell_keys))))

-- the keys of the line with a number
unfoldable pub line_keys : ℕ → ℕ → List ℕ
line_keys position number = keys_by position (file_of number) (kind_of number)

-- the keys of so many lines after the line at a position, which has this number
unfoldable pub keys_after : ℕ → ℕ → ℕ → List ℕ
keys_after position number zero = []
keys_after position number (suc lines) =
    line_keys (position + 1) (next_number number) ++ keys_after (position + 1) (next_number number) lines

-- the keys of so many lines: the number before the first is how many there are
abbrev pub generated_keys : ℕ → List ℕ
generated_keys lines = keys_after 0 lines lines
