-- What a line is, by what it begins with.
use Rattle.std.specs.Prelude.{ℕ, not, ◌==◌, if◌then◌else◌, List, [], ◌∷◌, take, drop, codes}
use Rattle.std.specs.List.{prefix_len}
use Rattle.std.specs.Str.{bytes_eq}
use Rattle.cm_synopsis.specs.Bytes.{is_blank}
use Rattle.cm_synopsis.specs.declared.kinds.LineKind.{LineKind}
use Rattle.cm_synopsis.specs.declared.kinds.LineKind.TheVariants.{Command, Empty, Help, Names, Prompt, Remark}

-- the bytes before the first blank: none where the line begins with one
abbrev pub first_run : List ℕ → List ℕ
first_run line = take (prefix_len (λ byte. not (is_blank byte)) line) line

-- what a line is that begins with these bytes before its first blank
abbrev pub run_kind : List ℕ → LineKind
run_kind run =
    if bytes_eq run (codes "prompt") then Prompt
    else if bytes_eq run (codes "list") then Names
    else if bytes_eq run (codes "help") then Help
    else Command

-- a line of blanks alone is empty, and one whose first other byte is # is a remark
abbrev pub kind_after : LineKind → List ℕ → LineKind
kind_after kind [] = Empty
kind_after kind (byte ∷ bytes) = if byte == 35 then Remark else kind

unfoldable pub line_kind : List ℕ → LineKind
line_kind line = kind_after (run_kind (first_run line)) (drop (prefix_len is_blank line) line)
