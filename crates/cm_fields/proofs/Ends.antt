-- What is passed in one go: blanks before a field, and a line that does not end.
use Rattle.std.proofs.Common.{◌≡◌, ℕ, ◌+◌, ◌<◌, Bool, true, false, ◌==◌, ◌||◌, cond, not, suc, List, [], ◌∷◌, length, drop, take, refl, ap, arith}
use Rattle.std.specs.List.{list_any, prefix_len}
use Rattle.std.proofs.lemmas.Bool.Decides.{nat_tests}
use Rattle.std.proofs.lemmas.List.{drop-drop}
use Rattle.cm_text.specs.Bytes.{is_blank}
use Rattle.cm_fields.specs.declared.skipped.Comment.TheVariants.{Outside}
use Rattle.cm_fields.specs.declared.trial.Try.TheVariants.{More}
use Rattle.cm_fields.specs.Skip.{skip, skip_from}
use Rattle.cm_fields.specs.Text.{is_inside, text_field, text_of}
use Rattle.cm_fields.specs.Try.{said}

-- blanks in front are passed
blanks_passed : (raw : Bool) (at : ℕ) (rest : List ℕ)
    → skip_from raw Outside (at + prefix_len is_blank rest) (drop (prefix_len is_blank rest) rest) ≡ skip_from raw Outside at rest
blanks_passed raw at [] = let same : at + 0 ≡ at = omega arith in ap (λ place. skip_from raw Outside place []) same
blanks_passed raw at (byte ∷ more) = by (is_blank byte) refl (blanks_passed raw (at + 1) more)
  where
    size : ℕ
    size = prefix_len is_blank more

    by : (test : Bool) → is_blank byte ≡ test
        → skip_from raw Outside (at + 1 + size) (drop size more) ≡ skip_from raw Outside (at + 1) more
        → skip_from raw Outside (at + cond test (1 + size) 0) (drop (cond test (1 + size) 0) (byte ∷ more)) ≡ skip_from raw Outside at (byte ∷ more)
    by false is later = let same : at + 0 ≡ at = omega arith in ap (λ place. skip_from raw Outside place (byte ∷ more)) same
    by true is later =
        let further : 1 + size ≡ suc size = omega arith in
        let place : at + suc size ≡ at + 1 + size = omega arith in
        rw (further, place, is) later

-- so the walk may begin after them
pub after_blanks : (raw : Bool) (text : List ℕ) (at size start : ℕ) → size ≡ prefix_len is_blank (drop at text) → start ≡ at + size
    → skip_from raw Outside (start + 0) (drop 0 (drop start text)) ≡ skip raw text at
after_blanks raw text at size start is begins =
    let place : start + 0 ≡ at + size = omega arith in
    rw (place, begins, ← drop-drop size at text, is) (blanks_passed raw at (drop at text))

-- a run before the end of the line is shorter than the text
run_ends : (rest : List ℕ) → list_any (λ byte. byte == 13) rest ≡ true → prefix_len is_inside rest < length rest
run_ends [] has = cc
run_ends (byte ∷ more) has = by (byte == 13) (run_ends more) has
  where
    by : (test : Bool) → (list_any (λ byte. byte == 13) more ≡ true → prefix_len is_inside more < length more)
        → (test || list_any (λ byte. byte == 13) more) ≡ true
        → cond (not test) (1 + prefix_len is_inside more) 0 < suc (length more)
    by true later has = omega arith
    by false later has = let shorter = later has in omega arith

-- with no end of the line it is the whole text
run_is_whole : (rest : List ℕ) → list_any (λ byte. byte == 13) rest ≡ false → prefix_len is_inside rest ≡ length rest
run_is_whole [] has = refl
run_is_whole (byte ∷ more) has = by (byte == 13) (run_is_whole more) has
  where
    by : (test : Bool) → (list_any (λ byte. byte == 13) more ≡ false → prefix_len is_inside more ≡ length more)
        → (test || list_any (λ byte. byte == 13) more) ≡ false
        → cond (not test) (1 + prefix_len is_inside more) 0 ≡ suc (length more)
    by true later has = cc
    by false later has = let whole = later has in omega arith

-- the rest of a line that does not end wants more
pub open_wants : (rest : List ℕ) (at : ℕ) → list_any (λ byte. byte == 13) rest ≡ false → text_field rest at ≡ More
open_wants rest at has =
    let test : (prefix_len is_inside rest == length rest) ≡ true = let whole = run_is_whole rest has in grind (arith, nat_tests) in
    rw test refl

-- and that of one that ends is said
pub ended_says : (rest : List ℕ) (at : ℕ) → list_any (λ byte. byte == 13) rest ≡ true
    → text_field rest at
    ≡ said at (prefix_len is_inside rest) (prefix_len is_inside rest + 1) (text_of at (take (prefix_len is_inside rest) rest))
ended_says rest at has =
    let test : (prefix_len is_inside rest == length rest) ≡ false = let shorter = run_ends rest has in grind (arith, nat_tests) in
    rw test refl
