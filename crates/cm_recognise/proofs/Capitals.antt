-- What goes on in capitals is the same text, and is shown as it is.
use Rattle.std.proofs.Common.{◌≡◌, ℕ, true, List, [], ◌∷◌, length, drop, arith, refl, sym, subst}
use Rattle.std.specs.Char.{to_ascii_uppercase}
use Rattle.std.specs.List.{list_all, prefix_len}
use Rattle.std.proofs.lemmas.Bool.{and_from, and_parts}
use Rattle.std.proofs.lemmas.Bool.Decides.{nat_tests}
use Rattle.std.proofs.lemmas.List.{drop-map, length-map}
use Rattle.cm_lists.proofs.Ascii.{lowercase-up, up}
use Rattle.cm_lists.proofs.Bools.{cond_each}
use Rattle.cm_lists.proofs.Prefixes.{prefix_len_drop}
use Rattle.cm_text.specs.BeginLaws.{lower}
use Rattle.cm_text.specs.Bytes.{is_shown_byte, is_word}
use Rattle.cm_text.specs.Case.{equals}
use Rattle.cm_tables.specs.Order.{is_keyword_byte}
use Rattle.cm_tables.proofs.FoundLemmas.{same_lower}
use Rattle.cm_recognise.specs.Capitals.{are_capitals, in_case}
use Rattle.cm_recognise.proofs.Texts.{AreShown}

pub case_length : (typed rest : List ℕ) → length (in_case typed rest) ≡ length rest
case_length typed rest =
    cond_each (λ (text : List ℕ). length text ≡ length rest) (are_capitals typed) (up rest) rest
    (length-map rest to_ascii_uppercase) refl

-- it is the same without the case of letters
pub case_same : (typed rest : List ℕ) → equals rest (in_case typed rest) ≡ true
case_same typed rest =
    same_lower rest (in_case typed rest)
    (cond_each (λ (text : List ℕ). lower rest ≡ lower text) (are_capitals typed) (up rest) rest (sym (lowercase-up rest)) refl)

upper_shown : (byte : ℕ) → is_shown_byte byte ≡ true → is_shown_byte (to_ascii_uppercase byte) ≡ true
upper_shown byte is = grind (arith, nat_tests)

up_shown : (text : List ℕ) → AreShown text → AreShown (up text)
up_shown [] all = tt
up_shown (byte ∷ text) all = (upper_shown byte all.0, up_shown text all.1)

pub case_shown : (typed rest : List ℕ) → AreShown rest → AreShown (in_case typed rest)
case_shown typed rest all = cond_each AreShown (are_capitals typed) (up rest) rest (up_shown rest all) all

-- the rest of a keyword is word bytes
word_of_keyword : (byte : ℕ) → is_keyword_byte byte ≡ true → is_word byte ≡ true
unfolding is_word
word_of_keyword byte is = grind (arith, nat_tests)

upper_keyword : (byte : ℕ) → is_keyword_byte byte ≡ true → is_keyword_byte (to_ascii_uppercase byte) ≡ true
upper_keyword byte is = grind (arith, nat_tests)

up_keyword : (text : List ℕ) → list_all is_keyword_byte text ≡ true → list_all is_keyword_byte (up text) ≡ true
up_keyword [] all = refl
up_keyword (byte ∷ text) all =
    let parts = and_parts (is_keyword_byte byte) (list_all is_keyword_byte text) all in
    and_from (is_keyword_byte (to_ascii_uppercase byte)) (list_all is_keyword_byte (up text))
    (upper_keyword byte parts.0) (up_keyword text parts.1)

pub case_words : (typed text : List ℕ) (size : ℕ) → list_all is_keyword_byte text ≡ true
    → prefix_len is_word (in_case typed (drop size text)) ≡ length (in_case typed (drop size text))
case_words typed text size all =
    cond_each (λ (rest : List ℕ). prefix_len is_word rest ≡ length rest) (are_capitals typed) (up (drop size text)) (drop size text)
    (subst (λ (rest : List ℕ). prefix_len is_word rest ≡ length rest) (drop-map to_ascii_uppercase size text)
    (prefix_len_drop is_keyword_byte is_word word_of_keyword size (up text) (up_keyword text all)))
    (prefix_len_drop is_keyword_byte is_word word_of_keyword size text all)
