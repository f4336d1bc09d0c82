-- Names of labels, and texts that can be parsed.
use Rattle.std.proofs.Common.{◌≡◌, ℕ, zero, suc, ◌+◌, ◌<◌, ◌≤◌, nat_le, Bool, true, false, ◌&&◌, List, [], ◌∷◌, ◌++◌, length, map, take, drop, get_or, refl, sym, ap, ◌∙◌, arith}
use Rattle.std.specs.Char.{to_ascii_lowercase}
use Rattle.std.specs.List.{AllByRecursion, list_all}
use Rattle.std.proofs.lemmas.Bool.Decides.{nat_tests}
use Rattle.std.proofs.lemmas.List.{take_all}
use Rattle.cm_text.specs.Bytes.{is_line_byte, is_text, is_word}
use Rattle.cm_text.specs.Case.{begins_with}
use Rattle.cm_text.specs.Text.{IsLine}
use Rattle.cm_text.specs.declared.name.TheConstants.{NAME_LIMIT}
use Rattle.cm_text.specs.declared.text.TheConstants.{LINE_LIMIT}
use Rattle.ex_batch.specs.Control.{goto_word, is_goto, is_label, is_label_name, is_parsable, name_in}

and_left : (a b : Bool) → (a && b) ≡ true → a ≡ true
and_left true b both = refl
and_left false b both = both

and_right : (a b : Bool) → (a && b) ≡ true → b ≡ true
and_right true b both = both
and_right false b both = absurd (cc)

-- what `@GOTO` names has the name of a label
pub goto_named : (line : List ℕ) → is_goto line ≡ true → is_label_name (drop (length goto_word) line) ≡ true
goto_named line is = and_right (begins_with line goto_word) (is_label_name (drop (length goto_word) line)) is

-- and what is before two colons
pub label_named : (line : List ℕ) → is_label line ≡ true → is_label_name (name_in line) ≡ true
label_named line is = and_right _ (is_label_name (name_in line)) is

-- such a name is short
pub name_short : (name : List ℕ) → is_label_name name ≡ true → length name ≤ NAME_LIMIT
unfolding is_label_name
name_short name is = nat_le_true (length name) NAME_LIMIT (and_left _ _ (and_right _ _ is))
  where
    nat_le_true : (n m : ℕ) → nat_le n m ≡ true → n ≤ m
    nat_le_true n m holds = grind (arith, nat_tests, holds)

-- it is ASCII, also in lower case
lower_small : (byte : ℕ) → is_word byte ≡ true → to_ascii_lowercase byte < 128
unfolding is_word
lower_small byte is = grind (arith, nat_tests)

all_small : (name : List ℕ) (i : ℕ) → list_all is_word name ≡ true → i < length name → to_ascii_lowercase (get_or name i 0) < 128
all_small [] i all below = absurd (omega (arith, below))
all_small (first ∷ more) zero all below = lower_small first (and_left _ _ all)
all_small (first ∷ more) (suc i) all below = all_small more i (and_right _ _ all) (omega (arith, below))

pub name_small : (name : List ℕ) (i : ℕ) → is_label_name name ≡ true → i < length name
    → to_ascii_lowercase (get_or name i 0) < 128
unfolding is_label_name
name_small name i is below = all_small name i (and_right _ _ (and_right _ _ is)) below

-- one byte more of it is kept
abbrev lower : List ℕ → List ℕ
lower text = map to_ascii_lowercase text

pub kept_more : (text : List ℕ) (i byte : ℕ) → i < length text → byte ≡ get_or text i byte
    → lower (take (i + 1) text) ≡ lower (take i text) ++ to_ascii_lowercase byte ∷ []
kept_more [] i byte below is = absurd (omega arith)
kept_more (first ∷ more) zero byte below is = ap (λ (b : ℕ). to_ascii_lowercase b ∷ []) (sym is)
kept_more (first ∷ more) (suc i) byte below is =
    let step : suc i + 1 ≡ suc (i + 1) = omega arith in
    ap (λ (n : ℕ). lower (take n (first ∷ more))) step
    ∙ ap (λ (rest : List ℕ). to_ascii_lowercase first ∷ rest) (kept_more more i byte (omega arith) is)

pub kept_all : (text : List ℕ) (i : ℕ) → length text ≤ i → lower (take i text) ≡ lower text
kept_all text i all = ap lower (take_all i text all)

-- a text that can be parsed is a line
line_byte : (byte : ℕ) → is_text byte ≡ true → is_line_byte byte ≡ true
unfolding is_line_byte
line_byte byte is = rw is refl

all_plain : (text : List ℕ) → list_all is_text text ≡ true → AllByRecursion (λ byte. is_line_byte byte ≡ true) text
all_plain [] all = tt
all_plain (byte ∷ text) all = (line_byte byte (and_left _ _ all), all_plain text (and_right _ _ all))

pub line_holds : (text : List ℕ) → is_parsable text ≡ true → IsLine text
line_holds text is = record {
  short = nat_le_true (length text) LINE_LIMIT (and_left _ _ is);
  plain = all_plain text (and_right _ _ is);
}
  where
    nat_le_true : (n m : ℕ) → nat_le n m ≡ true → n ≤ m
    nat_le_true n m holds = grind (arith, nat_tests, holds)
