-- Texts that are the same but for the case of their letters.
use Rattle.std.proofs.Common.{◌≡◌, ℕ, ◌≤◌, Bool, true, false, not, ◌&&◌, ◌||◌, ◌==◌, nat_lt, nat_le, cond, List, [], ◌∷◌, ◌++◌, length, take, drop, map, refl, ap, sym, subst, arith, ◌∙◌}
use Rattle.std.specs.Char.{is_ascii_lowercase, to_ascii_lowercase}
use Rattle.std.specs.List.{list_all, onto_first, slice_split}
use Rattle.std.proofs.lemmas.Bool.{and_from, and_parts}
use Rattle.std.proofs.lemmas.Bool.Decides.{nat_tests}
use Rattle.std.proofs.lemmas.List.{length-map, take_all}
use Rattle.cm_lists.proofs.Quantifiers.{all_weaker}
use Rattle.cm_text.specs.declared.name.TheConstants.{NAME_LIMIT}
use Rattle.cm_text.specs.BeginLaws.{begins_same, begins_whole, length-whole, lower}
use Rattle.cm_text.specs.Bytes.{is_name, is_word}
use Rattle.cm_text.specs.Case.{begins_with}
use Rattle.cm_fields.specs.Phrase.{same_letter}
use Rattle.cm_files.specs.Catalogue.{is_directory_name, is_upper_name}
use Rattle.cm_files.specs.Fields.{is_plain_path}
use Rattle.cm_files.specs.Pattern.{matches}
use Rattle.cm_files.specs.Spec.{are_parts}

-- what is typed and what is missing of a text are the text
pub completed_lower : (text typed : List ℕ) → begins_with text typed ≡ true → lower (typed ++ drop (length typed) text) ≡ lower text
completed_lower text typed begins =
    let whole = typed ++ drop (length typed) text in
    let size = length-whole text typed begins in
    let all : take (length whole) text ≡ text = take_all (length whole) text (omega (arith, size)) in
    sym (sym (ap lower all) ∙ begins_same text whole (begins_whole text typed begins))

to_lower : (p : ℕ → Bool) → ((byte : ℕ) → p byte ≡ true → p (to_ascii_lowercase byte) ≡ true) → (text : List ℕ)
    → list_all p text ≡ true → list_all p (lower text) ≡ true
to_lower p one [] all = refl
to_lower p one (byte ∷ text) all =
    let parts = and_parts (p byte) (list_all p text) all in
    and_from (p (to_ascii_lowercase byte)) (list_all p (lower text)) (one byte parts.0) (to_lower p one text parts.1)

from_lower : (p : ℕ → Bool) → ((byte : ℕ) → p (to_ascii_lowercase byte) ≡ true → p byte ≡ true) → (text : List ℕ)
    → list_all p (lower text) ≡ true → list_all p text ≡ true
from_lower p one [] all = refl
from_lower p one (byte ∷ text) all =
    let parts = and_parts (p (to_ascii_lowercase byte)) (list_all p (lower text)) all in
    and_from (p byte) (list_all p text) (one byte parts.0) (from_lower p one text parts.1)

name_to_lower : (byte : ℕ) → is_name byte ≡ true → is_name (to_ascii_lowercase byte) ≡ true
unfolding is_name is_word
name_to_lower byte is = grind (arith, nat_tests)

name_from_lower : (byte : ℕ) → is_name (to_ascii_lowercase byte) ≡ true → is_name byte ≡ true
unfolding is_name is_word
name_from_lower byte is = grind (arith, nat_tests)

path_to_lower : (byte : ℕ) → is_plain_path byte ≡ true → is_plain_path (to_ascii_lowercase byte) ≡ true
unfolding is_name is_word
path_to_lower byte is = grind (arith, nat_tests)

path_from_lower : (byte : ℕ) → is_plain_path (to_ascii_lowercase byte) ≡ true → is_plain_path byte ≡ true
unfolding is_name is_word
path_from_lower byte is = grind (arith, nat_tests)

-- the class of name bytes, and with the point, do not depend on the case
pub names_same : (text other : List ℕ) → lower text ≡ lower other → list_all is_name other ≡ true → list_all is_name text ≡ true
names_same text other same all =
    from_lower is_name name_from_lower text
    (subst (λ (low : List ℕ). list_all is_name low ≡ true) (sym same) (to_lower is_name name_to_lower other all))

pub paths_same : (text other : List ℕ) → lower text ≡ lower other → list_all is_plain_path other ≡ true
    → list_all is_plain_path text ≡ true
paths_same text other same all =
    from_lower is_plain_path path_from_lower text
    (subst (λ (low : List ℕ). list_all is_plain_path low ≡ true) (sym same) (to_lower is_plain_path path_to_lower other all))

-- where the points stand does not depend on the case
is_point : ℕ → Bool
is_point byte = byte == 46

has_bytes : List ℕ → Bool
has_bytes part = nat_lt 0 (length part)

point_lower : (byte : ℕ) → is_point (to_ascii_lowercase byte) ≡ is_point byte
unfolding is_point
point_lower byte = by (to_ascii_lowercase byte == 46) refl (byte == 46) refl
  where
    by : (a : Bool) → (to_ascii_lowercase byte == 46) ≡ a → (b : Bool) → (byte == 46) ≡ b → a ≡ b
    by true low true is = refl
    by false low false is = refl
    by true low false is = grind (arith, nat_tests)
    by false low true is = grind (arith, nat_tests)

onto_lower : (byte : ℕ) (parts : List (List ℕ))
    → onto_first (to_ascii_lowercase byte) (map lower parts) ≡ map lower (onto_first byte parts)
onto_lower byte [] = refl
onto_lower byte (part ∷ parts) = refl

split_lower : (text : List ℕ) → slice_split is_point (lower text) ≡ map lower (slice_split is_point text)
split_lower [] = refl
split_lower (byte ∷ text) =
    rw (point_lower byte, split_lower text) (by (is_point byte))
  where
    by : (test : Bool) → cond test ([] ∷ map lower (slice_split is_point text)) (onto_first (to_ascii_lowercase byte) (map lower (slice_split is_point text)))
        ≡ map lower (cond test ([] ∷ slice_split is_point text) (onto_first byte (slice_split is_point text)))
    by true = refl
    by false = onto_lower byte (slice_split is_point text)

bytes_lower : (parts : List (List ℕ)) → list_all has_bytes (map lower parts) ≡ list_all has_bytes parts
unfolding has_bytes
bytes_lower [] = refl
bytes_lower (part ∷ parts) =
    let size = length-map part to_ascii_lowercase in
    rw (size, bytes_lower parts) refl

parts_lower : (text : List ℕ) → list_all has_bytes (slice_split is_point (lower text)) ≡ list_all has_bytes (slice_split is_point text)
parts_lower text = ap (list_all has_bytes) (split_lower text) ∙ bytes_lower (slice_split is_point text)

pub parts_same : (text other : List ℕ) → lower text ≡ lower other → are_parts other ≡ true → are_parts text ≡ true
unfolding is_point has_bytes
parts_same text other same parts =
    sym (parts_lower text) ∙ ap (λ (low : List ℕ). list_all has_bytes (slice_split is_point low)) same ∙ parts_lower other ∙ parts

-- a name that has no wildcard means each name of the same letters
pub matches_same : (pattern name : List ℕ) → list_all is_name pattern ≡ true → lower name ≡ lower pattern → matches pattern name ≡ true
unfolding is_name is_word
matches_same [] [] all same = refl
matches_same [] (byte ∷ name) all same = cc
matches_same (mark ∷ pattern) [] all same = cc
matches_same (mark ∷ pattern) (byte ∷ name) all same =
    let parts = and_parts (is_name mark) (list_all is_name pattern) all in
    let here : to_ascii_lowercase byte ≡ to_ascii_lowercase mark = cc in
    let rest : lower name ≡ lower pattern = cc in
    let star : (mark == 42) ≡ false = (let is = parts.0 in grind (arith, nat_tests)) in
    let letter : same_letter mark byte ≡ true = grind (arith, nat_tests) in
    let later = matches_same pattern name parts.1 rest in
    rw (star, letter, later) (either (mark == 37))
  where
    either : (test : Bool) → ((test || true) && true) ≡ true
    either true = refl
    either false = refl

-- the name of a directory: bytes of a path, in parts that are not empty
part_bytes : (part : List ℕ) → (nat_lt 0 (length part) && is_upper_name part) ≡ true → has_bytes part ≡ true
unfolding has_bytes
part_bytes part is = (and_parts (nat_lt 0 (length part)) (is_upper_name part) is).0

pub upper_names : (text : List ℕ) → is_upper_name text ≡ true → list_all is_name text ≡ true
upper_names text is =
    all_weaker (λ byte. is_name byte && not (is_ascii_lowercase byte)) is_name
    (λ byte is. (and_parts (is_name byte) (not (is_ascii_lowercase byte)) is).0) text is

part_names : (part : List ℕ) → (nat_lt 0 (length part) && is_upper_name part) ≡ true → list_all is_name part ≡ true
part_names part is = upper_names part (and_parts (nat_lt 0 (length part)) (is_upper_name part) is).1

record Onto (byte : ℕ) (parts : List (List ℕ)) : Type 0 where
  here : is_name byte ≡ true
  rest : list_all (list_all is_name) parts ≡ true

onto_names : (byte : ℕ) (parts : List (List ℕ)) → list_all (list_all is_name) (onto_first byte parts) ≡ true → Onto byte parts
onto_names byte [] all = record { here = (and_parts _ _ (and_parts _ true all).0).0; rest = refl }
onto_names byte (part ∷ parts) all =
    let both = and_parts (list_all is_name (byte ∷ part)) (list_all (list_all is_name) parts) all in
    let first = and_parts (is_name byte) (list_all is_name part) both.0 in
    record { here = first.0; rest = and_from (list_all is_name part) (list_all (list_all is_name) parts) first.1 both.1 }

path_byte : (byte : ℕ) → is_name byte ≡ true → is_plain_path byte ≡ true
path_byte byte is = rw is refl

paths_of_parts : (text : List ℕ) → list_all (list_all is_name) (slice_split is_point text) ≡ true → list_all is_plain_path text ≡ true
unfolding is_point
paths_of_parts [] all = refl
paths_of_parts (byte ∷ text) all = by (byte == 46) refl all (paths_of_parts text)
  where
    by : (test : Bool) → (byte == 46) ≡ test
        → list_all (list_all is_name) (cond test ([] ∷ slice_split is_point text) (onto_first byte (slice_split is_point text))) ≡ true
        → (list_all (list_all is_name) (slice_split is_point text) ≡ true → list_all is_plain_path text ≡ true)
        → (is_plain_path byte && list_all is_plain_path text) ≡ true
    by true point all rest = and_from (is_plain_path byte) (list_all is_plain_path text) (or_true (is_name byte) point) (rest all)
      where
        or_true : (a : Bool) → (byte == 46) ≡ true → (a || (byte == 46)) ≡ true
        or_true true is = refl
        or_true false is = is
    by false point all rest =
        let onto = onto_names byte (slice_split is_point text) all in
        and_from (is_plain_path byte) (list_all is_plain_path text) (path_byte byte onto.here) (rest onto.rest)

pub record DirectoryName (name : List ℕ) : Type 0 where
  pub short : length name ≤ NAME_LIMIT
  pub paths : list_all is_plain_path name ≡ true
  pub parts : are_parts name ≡ true

pub directory_name : (name : List ℕ) → is_directory_name name ≡ true → DirectoryName name
unfolding is_point has_bytes
directory_name name is =
    let both = and_parts (nat_le (length name) NAME_LIMIT) _ is in
    let size = both.0 in
    record {
      short = grind (arith, nat_tests);
      paths = paths_of_parts name (all_weaker _ (list_all is_name) part_names (slice_split is_point name) both.1);
      parts = all_weaker _ has_bytes part_bytes (slice_split is_point name) both.1;
    }
