-- ASCII bytes, and letters without case.
use Rattle.std.proofs.Common.{Bool, List, [], ap, arith, drop, false, get_or, length, map, refl, suc, sym, take, true, zero, ℕ, ◌++◌, ◌+◌, ◌-◌, ◌<◌, ◌==◌, ◌∙◌, ◌∷◌, ◌≡◌, ◌≤◌}
use Rattle.std.specs.Char.{is_ascii_alphabetic, is_ascii_lowercase, to_ascii_lowercase, to_ascii_uppercase}
use Rattle.std.specs.List.{list_all}
use Rattle.std.specs.Str.{IsAscii, IsUtf8}
use Rattle.std.proofs.lemmas.Bool.{and_parts}
use Rattle.std.proofs.lemmas.Bool.Decides.{nat_tests}
use Rattle.std.proofs.lemmas.List.{take_all}
use Rattle.std.proofs.lemmas.Str.{IsAscii-drop, IsAscii-take, IsUtf8-from_ascii}
use Rattle.std.proofs.lemmas.Str.Ascii.{lowercase-uppercase, uppercase_ascii}
use Rattle.cm_lists.proofs.Bools.{same_truth}

-- what is after a part of an ASCII text is one
pub IsAscii_rest : (size : ℕ) (text : List ℕ) → IsAscii text → IsAscii (take (length text - size) (drop size text))
IsAscii_rest size text is = IsAscii-take (drop size text) (length text - size) (IsAscii-drop text size is)

-- ASCII bytes are a text: std's lemma, under a name that is in a using(..)
pub text_of_ascii : (bytes : List ℕ) → IsAscii bytes → IsUtf8 bytes
text_of_ascii bytes are = IsUtf8-from_ascii bytes are

-- bytes that all pass a test of ASCII bytes alone are ASCII
pub IsAscii_of_all : (test : ℕ → Bool) → ((byte : ℕ) → test byte ≡ true → byte < 128) → (bytes : List ℕ)
    → list_all test bytes ≡ true → IsAscii bytes
IsAscii_of_all test low [] all i = omega arith
IsAscii_of_all test low (byte ∷ more) all zero = low byte (and_parts (test byte) (list_all test more) all).0
IsAscii_of_all test low (byte ∷ more) all (suc i) =
    IsAscii_of_all test low more (and_parts (test byte) (list_all test more) all).1 i

pub alphabetic-uppercase : (byte : ℕ) → is_ascii_alphabetic (to_ascii_uppercase byte) ≡ is_ascii_alphabetic byte
alphabetic-uppercase byte = same_truth _ _ (λ is. grind (arith, nat_tests)) (λ is. grind (arith, nat_tests))

pub uppercase_alphabetic : (byte : ℕ) → is_ascii_alphabetic byte ≡ true → is_ascii_alphabetic (to_ascii_uppercase byte) ≡ true
uppercase_alphabetic byte is = grind (arith, nat_tests)

-- the bytes in upper case
abbrev pub up : List ℕ → List ℕ
up text = map to_ascii_uppercase text

-- a text in upper case and the text are the same in lower case
pub lowercase-up : (text : List ℕ) → map to_ascii_lowercase (up text) ≡ map to_ascii_lowercase text
lowercase-up [] = refl
lowercase-up (byte ∷ text) = rw (lowercase-uppercase byte, lowercase-up text) refl

-- one byte more of a text in upper case, and all of them
pub up_more : (text : List ℕ) (i byte : ℕ) → i < length text → byte ≡ get_or text i byte
    → up (take (i + 1) text) ≡ up (take i text) ++ to_ascii_uppercase byte ∷ []
up_more [] i byte below is = absurd (omega arith)
up_more (first ∷ more) zero byte below is = ap (λ (b : ℕ). to_ascii_uppercase b ∷ []) (sym is)
up_more (first ∷ more) (suc i) byte below is =
    let step : suc i + 1 ≡ suc (i + 1) = omega arith in
    ap (λ (n : ℕ). up (take n (first ∷ more))) step
    ∙ ap (λ (rest : List ℕ). to_ascii_uppercase first ∷ rest) (up_more more i byte (omega arith) is)

pub up_all : (text : List ℕ) (i : ℕ) → length text ≤ i → up (take i text) ≡ up text
up_all text i all = ap up (take_all i text all)

pub uppercase_at_ascii : (text : List ℕ) (i : ℕ) → IsAscii text → to_ascii_uppercase (get_or text i 0) < 128
uppercase_at_ascii text i ascii = uppercase_ascii (get_or text i 0) (ascii i)

-- the upper case of the lower case is that of the byte
pub uppercase-lowercase : (byte : ℕ) → to_ascii_uppercase (to_ascii_lowercase byte) ≡ to_ascii_uppercase byte
uppercase-lowercase byte = grind (arith, nat_tests)

pub up-lowercase : (text : List ℕ) → up (map to_ascii_lowercase text) ≡ up text
up-lowercase [] = refl
up-lowercase (byte ∷ text) = rw (uppercase-lowercase byte, up-lowercase text) refl

-- two bytes that are no small letters are the same where their small letters are
pub same_from_lowercase : (a b : ℕ) → to_ascii_lowercase a ≡ to_ascii_lowercase b → is_ascii_lowercase a ≡ false → is_ascii_lowercase b ≡ false
    → a ≡ b
same_from_lowercase a b same first second = grind (arith, nat_tests)

pub uppercase_is_no_mark : (mark sign : ℕ) → sign < 65 → (mark == sign) ≡ false → (to_ascii_uppercase mark == sign) ≡ false
uppercase_is_no_mark mark sign low other = grind (arith, nat_tests)
