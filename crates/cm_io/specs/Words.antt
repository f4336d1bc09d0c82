-- The words that a program is given.
use Rattle.std.specs.Prelude.{ℕ, ◌&&◌, List, [], ◌∷◌, ◌++◌, length, Option, Some, None, nat_lt, nat_le, slice_get, if◌then◌else◌}
use Rattle.cm_io.specs.declared.words.TheConstants.{LONGEST_WORD, MOST_WORDS}

-- the words so far, or None where they are too many or one is too long
abbrev pub Given : Type 0
Given = Option (List (List ℕ))

-- a word more: at most 4 are held, each of at most 255 bytes
abbrev pub with_word : Given → List ℕ → Given
with_word None word = None
with_word (Some words) word =
    if nat_lt (length words) MOST_WORDS && nat_le (length word) LONGEST_WORD then Some (words ++ word ∷ []) else None

-- how many there are, and none where they are too many
abbrev pub count : Given → ℕ
count None = 0
count (Some words) = length words

-- the word at a position
abbrev pub word_at : Given → ℕ → Option (List ℕ)
word_at None i = None
word_at (Some words) i = slice_get words i
