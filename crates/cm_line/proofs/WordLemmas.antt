-- Control-W takes at least one byte from a line that has one.
use Rattle.std.proofs.Common.{ℕ, ◌-◌, ◌<◌, ◌≤◌, List, length, take, arith}
use Rattle.std.proofs.lemmas.List.{length-take}
use Rattle.cm_line.specs.Word.{unblanked, without_word, word_start}

-- a word, or a byte that is none, is at least one byte
pub without_word-le : (line : List ℕ) → without_word line ≤ length line - 1
without_word-le line = grind arith

-- control-W leaves less than there was
pub word_start-lt : (line : List ℕ) → 0 < length line → word_start line < length line
unfolding word_start
word_start-lt line some =
    let kept = take (unblanked line) line in
    let fewer : length kept ≤ length line = omega (arith, length-take (unblanked line) line) in
    omega (arith, without_word-le kept)
