-- The words of a line stand within it, one behind the other.
use Rattle.std.proofs.Common.{◌≡◌, ℕ, ◌+◌, ◌-◌, ◌<◌, ◌≤◌, ◌==◌, false, List, [], ◌∷◌, length, take, drop, arith, not, length-drop}
use Rattle.std.proofs.Math.Nat.{min-le_right}
use Rattle.std.proofs.lemmas.Bool.{cond_both}
use Rattle.std.proofs.lemmas.Bool.Decides.{nat_tests}
use Rattle.std.proofs.lemmas.List.Sums.{prefix_len-le-length}
use Rattle.std.specs.List.{prefix_len}
use Rattle.cm_synopsis.specs.Bytes.{ends_in, is_blank, is_plain, is_sign}
use Rattle.cm_synopsis.specs.Words.{AreApart, is_passed, kinds_size, run_size, size_to, word_size, words, words_after}

size_to-le : (last : ℕ) (bytes : List ℕ) → size_to last bytes ≤ length bytes
size_to-le last bytes = min-le_right (prefix_len (λ byte. not (byte == last)) bytes + 1) (length bytes)

size_to-some : (last byte : ℕ) (bytes : List ℕ) → 0 < size_to last (byte ∷ bytes)
size_to-some last byte bytes = omega arith

kinds_size-le : (bytes : List ℕ) → kinds_size bytes ≤ length bytes
kinds_size-le [] = omega arith
kinds_size-le (byte ∷ bytes) =
    cond_both (byte == 91) _ _ (λ size. size ≤ length (byte ∷ bytes)) (λ _. size_to-le 93 (byte ∷ bytes))
    (λ _. cond_both (byte == 60) _ _ (λ size. size ≤ length (byte ∷ bytes)) (λ _. size_to-le 62 (byte ∷ bytes)) (λ _. omega arith))

run_size-le : (run : ℕ) (bytes : List ℕ) → run ≤ length bytes → run_size run bytes ≤ length bytes
run_size-le run bytes within =
    let more = kinds_size-le (drop run bytes) in
    let left : length (drop run bytes) ≡ length bytes - run = length-drop run bytes in
    cond_both (ends_in 58 (take run bytes)) _ _ (λ size. size ≤ length bytes)
    (λ _. omega (arith, more, left, within)) (λ _. within)

run_size-some : (run : ℕ) (bytes : List ℕ) → 0 < run → 0 < run_size run bytes
run_size-some run bytes some =
    cond_both (ends_in 58 (take run bytes)) _ _ (λ size. 0 < size) (λ _. omega (arith, some)) (λ _. some)

-- a word ends within the bytes that it begins
word_size-le : (bytes : List ℕ) → word_size bytes ≤ length bytes
unfolding word_size
word_size-le [] = omega arith
word_size-le (byte ∷ bytes) =
    cond_both (byte == 40) _ _ (λ size. size ≤ length (byte ∷ bytes)) (λ _. size_to-le 41 (byte ∷ bytes))
    (λ _. cond_both (is_sign byte) _ _ (λ size. size ≤ length (byte ∷ bytes)) (λ _. omega arith)
    (λ _. run_size-le _ (byte ∷ bytes) (prefix_len-le-length is_plain (byte ∷ bytes))))

plain_some : (byte : ℕ) (bytes : List ℕ) → is_blank byte ≡ false → is_sign byte ≡ false → (byte == 40) ≡ false
    → 0 < prefix_len is_plain (byte ∷ bytes)
unfolding is_plain
plain_some byte bytes blank sign guide = rw (blank, sign, guide) (omega arith)

-- a word that begins at no blank has a byte
word_size-some : (byte : ℕ) (bytes : List ℕ) → is_blank byte ≡ false → 0 < word_size (byte ∷ bytes)
unfolding word_size
word_size-some byte bytes blank =
    cond_both (byte == 40) _ _ (λ size. 0 < size) (λ _. size_to-some 41 byte bytes)
    (λ guide. cond_both (is_sign byte) _ _ (λ size. 0 < size) (λ _. omega arith)
    (λ sign. run_size-some _ (byte ∷ bytes) (plain_some byte bytes blank sign guide)))

words_apart : (place next : ℕ) (bytes : List ℕ) (size : ℕ) → place + length bytes ≡ size
    → AreApart next size (words_after place next bytes)
words_apart place next [] size same = tt
words_apart place next (byte ∷ bytes) size same =
    let later : place + 1 + length bytes ≡ size = omega (arith, same) in
    let within = word_size-le (byte ∷ bytes) in
    cond_both (is_passed place next byte) _ _ (AreApart next size)
    (λ _. words_apart (place + 1) next bytes size later)
    (λ is.
    let parts = not_passed place next byte is in
    let some = word_size-some byte bytes parts.1 in (
      parts.0,
      omega (arith, some),
      omega (arith, within, same),
      words_apart (place + 1) (place + word_size (byte ∷ bytes)) bytes size later,
    ))
  where
    not_passed : (place next byte : ℕ) → is_passed place next byte ≡ false → (next ≤ place) × (is_blank byte ≡ false)
    not_passed place next byte is = grind (arith, nat_tests)

-- the words of a whole line
pub words_within : (line : List ℕ) → AreApart 0 (length line) (words line)
unfolding words
words_within line = words_apart 0 0 line (length line) (omega arith)
