-- The words of a line, each with its place. A word begins at a byte that is no blank and in no word before.
use Rattle.std.specs.Prelude.{ℕ, ◌<◌, ◌≤◌, ◌+◌, ◌-◌, ◌==◌, Bool, not, ◌||◌, nat_lt, if◌then◌else◌, List, [], ◌∷◌, length, take, drop, min}
use Rattle.std.specs.List.{prefix_len}
use Rattle.cm_synopsis.specs.Bytes.{ends_in, is_blank, is_plain, is_sign}
use Rattle.cm_synopsis.specs.declared.cut.Word.{Word}

-- how many bytes these have up to a byte, and with it; all of them where it is not there
abbrev pub size_to : ℕ → List ℕ → ℕ
size_to last bytes = min (prefix_len (λ byte. not (byte == last)) bytes + 1) (length bytes)

-- how many bytes directly behind a colon belong to its word: a class to its ], or kinds to their >
abbrev pub kinds_size : List ℕ → ℕ
kinds_size [] = 0
kinds_size (byte ∷ bytes) =
    if byte == 91 then size_to 93 (byte ∷ bytes) else if byte == 60 then size_to 62 (byte ∷ bytes) else 0

-- a run of plain bytes, with what belongs to it where it ends in a colon
abbrev pub run_size : ℕ → List ℕ → ℕ
run_size run bytes = if ends_in 58 (take run bytes) then run + kinds_size (drop run bytes) else run

-- how many bytes the word has that begins these bytes: a guide word to its ), a sign alone, or a run
unfoldable pub word_size : List ℕ → ℕ
word_size [] = 0
word_size (byte ∷ bytes) =
    if byte == 40 then size_to 41 (byte ∷ bytes)
    else if is_sign byte then 1
    else run_size (prefix_len is_plain (byte ∷ bytes)) (byte ∷ bytes)

-- no word begins at this byte: it is in the word before, which ends where the next may begin, or it is a blank
abbrev pub is_passed : ℕ → ℕ → ℕ → Bool
is_passed place next byte = nat_lt place next || is_blank byte

-- the words of these bytes, which are in a line from a place on; the word before ends where the next may begin
abbrev pub words_after : ℕ → ℕ → List ℕ → List Word
words_after place next [] = []
words_after place next (byte ∷ bytes) =
    if is_passed place next byte then words_after (place + 1) next bytes
    else record { start = place; end = place + word_size (byte ∷ bytes) }
    ∷ words_after (place + 1) (place + word_size (byte ∷ bytes)) bytes

-- the words of a line
unfoldable pub words : List ℕ → List Word
words line = words_after 0 0 line

-- the bytes of a word
abbrev pub word_text : List ℕ → Word → List ℕ
word_text line word = take (word.end - word.start) (drop word.start line)

-- words of which each has a byte at least, begins at no place before the end of the one before it, and ends by a size
abbrev pub AreApart : ℕ → ℕ → List Word → Type 0
AreApart before size [] = Unit {0}
AreApart before size (word ∷ words) =
    (before ≤ word.start) × (word.start < word.end) × (word.end ≤ size) × AreApart word.end size words
