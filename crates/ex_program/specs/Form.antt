-- What the words of the program ask for.
use Rattle.std.specs.Prelude.{ℕ, Bool, true, false, ◌&&◌, List, length, Option, Some, None, nat_lt, nat_le, codes, if◌then◌else◌}
use Rattle.std.specs.Char.{is_ascii_digit}
use Rattle.std.specs.List.{list_all}
use Rattle.std.specs.Str.{bytes_eq}
use Rattle.std.specs.Str.Parse.{digits_value}
use Rattle.cm_io.specs.Words.{Given}
use Rattle.ex_system.specs.Form.{Form, Three, Two, in_out, is_name, pair_of, triple_of}
use Rattle.ex_program.specs.declared.progress.TheConstants.{GENERATED_LINES}
use Rattle.ex_program.specs.declared.words.TheConstants.{MOST_DIGITS}

-- what is shown where they ask for nothing that it does
unfoldable pub usage : List ℕ
usage = codes "Usage: exec20 [-w] IN OUT | exec20 [-w] -n OUT | exec20 -g N"

-- two words ask for a run by `-n OUT`, or `IN OUT`, which are two files
abbrev pub files_of : Bool → List ℕ → List ℕ → Option Form
files_of logs first out =
    if bytes_eq first (codes "-n") && is_name out then Some (record { logs = logs; input = None; out = out })
    else in_out logs first out

-- three by `-w` before them, for a log
abbrev pub with_log : List ℕ → List ℕ → List ℕ → Option Form
with_log log first out = if bytes_eq log (codes "-w") then files_of true first out else None

abbrev pub form_by : Option Two → Option Three → Option Form
form_by (Some two) three = files_of false two.first two.second
form_by None (Some three) = with_log three.first three.second three.third
form_by None None = None

-- [usage]
unfoldable pub form_of : Given → Option Form
form_of words = form_by (pair_of words) (triple_of words)

-- one to six digits
abbrev pub is_number : List ℕ → Bool
is_number word = nat_lt 0 (length word) && nat_le (length word) MOST_DIGITS && list_all is_ascii_digit word

-- a generated run has a number of lines from 1 to the most
abbrev pub lines_by : ℕ → Option ℕ
lines_by value = if nat_lt 0 value && nat_le value GENERATED_LINES then Some value else None

unfoldable pub lines_in : List ℕ → Option ℕ
lines_in word = if is_number word then lines_by (digits_value 10 word) else None

-- `-g N` asks for a run over the keys of so many generated lines
abbrev pub lines_after : List ℕ → List ℕ → Option ℕ
lines_after flag count = if bytes_eq flag (codes "-g") then lines_in count else None

abbrev pub lines_of_pair : Option Two → Option ℕ
lines_of_pair None = None
lines_of_pair (Some two) = lines_after two.first two.second

unfoldable pub lines_of : Given → Option ℕ
lines_of words = lines_of_pair (pair_of words)
