-- What completes an atom to one of the names of a list is taken.
use Rattle.std.proofs.Common.{◌≡◌, ℕ, ◌+◌, ◌<◌, ◌≤◌, Bool, true, false, cond, ◌==◌, nat_le, nat_lt, List, [], ◌∷◌, ◌++◌, length, drop, refl, arith, length-append}
use Rattle.std.specs.List.{enumerate_from, fold, list_all}
use Rattle.std.specs.Str.{IsAscii}
use Rattle.std.proofs.lemmas.Bool.{and_from, and_parts}
use Rattle.std.proofs.lemmas.Bool.Decides.{nat_tests}
use Rattle.cm_lists.proofs.Ascii.{IsAscii_of_all}
use Rattle.cm_lists.proofs.Quantifiers.{all_drop, all_filter, all_take}
use Rattle.cm_text.specs.Bytes.{is_name, is_word}
use Rattle.cm_text.specs.BeginLaws.{length-whole}
use Rattle.cm_text.specs.declared.name.TheConstants.{NAME_LIMIT}
use Rattle.cm_hooks.specs.Among.{completion_among, goes_on, has_name, is_under, rests, shared, under, verdict_among}
use Rattle.cm_hooks.specs.AmongLaws.{one_whole}
use Rattle.cm_hooks.specs.Meanings.{Completes, IsLawful, IsYes}
use Rattle.cm_hooks.specs.declared.answer.Answer.{Answer}
use Rattle.cm_hooks.specs.declared.answer.Tail.TheVariants as tails
use Rattle.cm_speech.specs.Address.{address_verdict}
use Rattle.cm_speech.specs.Rules.{are_texts, completion_of, is_speech_byte, is_speech_text, list_of, speech_meanings, verdict_of}
use Rattle.cm_speech.specs.declared.rules.TheConstants.{FIRST_LIST_HOOK}

speech_byte_is_ascii : (byte : ℕ) → is_speech_byte byte ≡ true → byte < 128
unfolding is_speech_byte is_name is_word
speech_byte_is_ascii byte is = grind (arith, nat_tests)

pub name_is_ascii : (text : List ℕ) → is_speech_text text ≡ true → IsAscii text
name_is_ascii text is =
    IsAscii_of_all is_speech_byte speech_byte_is_ascii text
    (and_parts (nat_le (length text) NAME_LIMIT) (list_all is_speech_byte text) is).1

-- so are names that are numbered
abbrev is_text_at : ℕ × List ℕ → Bool
is_text_at name = is_speech_text name.1

numbered : (number : ℕ) (names : List (List ℕ)) → are_texts names ≡ true
    → list_all is_text_at (enumerate_from number names) ≡ true
numbered number [] all = refl
numbered number (name ∷ more) all =
    let parts = and_parts (is_speech_text name) (are_texts more) all in
    and_from _ _ parts.0 (numbered (number + 1) more parts.1)

-- what is left of each is bytes of a field
rests_bytes : (size : ℕ) (names : List (ℕ × List ℕ)) → list_all is_text_at names ≡ true
    → list_all (list_all is_speech_byte) (rests size names) ≡ true
rests_bytes size [] all = refl
rests_bytes size (name ∷ more) all =
    let parts = and_parts (is_text_at name) (list_all is_text_at more) all in
    let here = and_parts (nat_le (length name.1) NAME_LIMIT) (list_all is_speech_byte name.1) parts.0 in
    and_from _ _ (all_drop is_speech_byte size name.1 here.1) (rests_bytes size more parts.1)

shared_bytes : (text : List ℕ) (more : List (List ℕ)) → list_all is_speech_byte text ≡ true
    → list_all (list_all is_speech_byte) more ≡ true → list_all is_speech_byte (fold shared text more) ≡ true
shared_bytes text [] first all = first
shared_bytes text (other ∷ more) first all =
    let parts = and_parts (list_all is_speech_byte other) (list_all (list_all is_speech_byte) more) all in
    shared_bytes (shared text other) more (all_take is_speech_byte _ other parts.0) parts.1

one_taken : (names : List (List ℕ)) (atom : List ℕ) (one : ℕ × List ℕ) → 0 < length atom
    → under names atom ≡ one ∷ [] → IsYes (verdict_among names atom)
unfolding verdict_among
one_taken names atom one some is =
    let full : (length atom == 0) ≡ false = grind (arith, nat_tests) in
    rw (full, is) tt

found_completes : (names : List (List ℕ)) (atom : List ℕ) (found : List (ℕ × List ℕ)) → 0 < length atom
    → list_all is_text_at found ≡ true → under names atom ≡ found
    → Completes is_speech_byte (verdict_among names) atom (goes_on (rests (length atom) found))
found_completes names atom [] some all is = tt
found_completes names atom (one ∷ []) some all is =
    let parts = and_parts (is_text_at one) true all in
    let here = and_parts (nat_le (length one.1) NAME_LIMIT) (list_all is_speech_byte one.1) parts.0 in
    let few : nat_le (length one.1) NAME_LIMIT ≡ true = here.0 in
    let short : length one.1 ≤ NAME_LIMIT = grind (arith, nat_tests, few) in
    let whole = one_whole names atom one is in
    let size = length-whole one.1 atom whole.0 in
    let more : 0 < length (atom ++ drop (length atom) one.1) = simp length-append (omega arith) in (
      all_drop is_speech_byte (length atom) one.1 here.1,
      record {
        short = omega (arith, size, short);
        taken = one_taken names (atom ++ drop (length atom) one.1) one more whole.1;
      },
    )
found_completes names atom (one ∷ other ∷ more) some all is =
    let rest = and_parts _ _ (rests_bytes (length atom) (one ∷ other ∷ more) all) in
    shared_bytes (drop (length atom) one.1) (rests (length atom) (other ∷ more)) rest.0 rest.1

list_completes : (names : List (List ℕ)) (atom : List ℕ) → are_texts names ≡ true
    → Completes is_speech_byte (verdict_among names) atom (completion_among names atom)
unfolding completion_among
list_completes names atom all = by (length atom == 0) refl
  where
    by : (b : Bool) → (length atom == 0) ≡ b → Completes is_speech_byte (verdict_among names) atom
        (cond b tails.None (goes_on (rests (length atom) (under names atom))))
    by true empty = tt
    by false full =
        found_completes names atom (under names atom) (grind (arith, nat_tests))
        (all_filter is_text_at (λ (name : ℕ × List ℕ). is_under (has_name names atom) atom name.1) (enumerate_from 0 names) (numbered 0 names all))
        refl

-- no list, no completion
empty_completes : (verdict : List ℕ → Answer) (atom : List ℕ)
    → Completes is_speech_byte verdict atom (completion_among [] atom)
unfolding completion_among
empty_completes verdict atom = by (length atom == 0)
  where
    by : (b : Bool) → Completes is_speech_byte verdict atom (cond b tails.None (goes_on []))
    by true = tt
    by false = tt

none : (lists : List (List (List ℕ))) (id : ℕ) → nat_lt id FIRST_LIST_HOOK ≡ true → list_of lists id ≡ []
unfolding list_of
none lists id low = rw low refl

id_completes : (lists : List (List (List ℕ))) (id : ℕ) (atom : List ℕ)
    → Completes is_speech_byte (verdict_of lists id) atom (completion_of lists id atom)
unfolding completion_of verdict_of
id_completes lists id atom = by (nat_lt id FIRST_LIST_HOOK) refl
  where
    kept : (verdict : List ℕ → Answer) (names : List (List ℕ)) (b : Bool) → are_texts names ≡ b
        → (are_texts names ≡ true → Completes is_speech_byte verdict atom (completion_among names atom))
        → Completes is_speech_byte verdict atom (cond b (completion_among names atom) tails.None)
    kept verdict names true all whole = whole all
    kept verdict names false all whole = tt

    by : (b : Bool) → nat_lt id FIRST_LIST_HOOK ≡ b → Completes is_speech_byte
        (λ (whole : List ℕ). cond b (address_verdict id whole) (verdict_among (list_of lists id) whole))
        atom (cond (are_texts (list_of lists id)) (completion_among (list_of lists id) atom) tails.None)
    by true low = rw (none lists id low) (empty_completes (address_verdict id) atom)
    by false high = kept _ (list_of lists id) (are_texts (list_of lists id)) refl (list_completes (list_of lists id) atom)

pub speech_lawful : (lists : List (List (List ℕ))) → IsLawful (speech_meanings lists)
speech_lawful lists = record { completes = λ id atom short. id_completes lists id atom }
