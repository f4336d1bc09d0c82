-- Where control-W leaves a line.
use Rattle.std.specs.Prelude.{ℕ, ◌-◌, ◌==◌, if◌then◌else◌, List, length, take}
use Rattle.std.specs.List.{suffix_len}
use Rattle.cm_text.specs.Bytes.{is_blank, is_word}

-- the length without the blanks at the end
abbrev pub unblanked : List ℕ → ℕ
unblanked line = length line - suffix_len is_blank line

-- the length without the run of word bytes at the end, or without one byte where there is no such run
abbrev pub without_word : List ℕ → ℕ
without_word line =
    if suffix_len is_word line == 0 then length line - 1 else length line - suffix_len is_word line

-- the length after one control-W: the blanks at the end go, and then a word or one other byte
unfoldable pub word_start : List ℕ → ℕ
word_start line = without_word (take (unblanked line) line)
