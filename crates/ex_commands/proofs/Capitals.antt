-- Names in upper case.
use Rattle.std.proofs.Common.{◌≡◌, ℕ, ◌≤◌, ◌||◌, ◌&&◌, ◌==◌, Bool, true, false, nat_lt, nat_le, cond, List, [], ◌∷◌, length, map, codes, refl, ap, sym, subst, ◌∙◌, arith}
use Rattle.std.specs.Char.{to_ascii_lowercase, to_ascii_uppercase}
use Rattle.std.specs.List.{list_all, list_any, onto_first, slice_split}
use Rattle.std.proofs.lemmas.Bool.{and_from, and_parts}
use Rattle.std.proofs.lemmas.Bool.Decides.{nat_tests}
use Rattle.std.proofs.lemmas.List.{length-map}
use Rattle.std.proofs.lemmas.Slice.Eq.{bytes_eq-Decides}
use Rattle.cm_lists.proofs.Ascii.{up}
use Rattle.cm_text.specs.declared.name.TheConstants.{NAME_LIMIT}
use Rattle.cm_text.specs.Bytes.{is_name}
use Rattle.cm_text.specs.Case.{equals}
use Rattle.cm_files.specs.Catalogue.{is_directory_name, is_upper_name}
use Rattle.cm_files.specs.Fields.{is_plain_path}
use Rattle.cm_files.specs.Pattern.{is_wild}
use Rattle.cm_files.specs.Spec.{are_parts, is_path, is_pattern}
use Rattle.ex_store.specs.Copying.{is_star}
use Rattle.ex_store.proofs.DefinedLaws.{upper_name}

-- a star alone stays one
star_byte : (byte : ℕ) → to_ascii_lowercase byte ≡ 42 → byte ≡ 42
star_byte byte is = grind (arith, nat_tests)

only_star : (text : List ℕ) → map to_ascii_lowercase text ≡ 42 ∷ [] → text ≡ 42 ∷ []
only_star [] is = cc
only_star (byte ∷ []) is = let same : to_ascii_lowercase byte ≡ 42 = cc in ap (λ (b : ℕ). b ∷ []) (star_byte byte same)
only_star (byte ∷ second ∷ more) is = cc

pub star_stays : (text : List ℕ) → equals text (codes "*") ≡ true → is_star (up text) ≡ true
unfolding equals
star_stays text is =
    let low : map to_ascii_lowercase text ≡ 42 ∷ [] = (bytes_eq-Decides (map to_ascii_lowercase text) (42 ∷ [])).0 is in
    subst (λ (it : List ℕ). is_star (up it) ≡ true) (sym (only_star text low)) refl

-- pattern bytes without wildcards are name bytes
pub plain_names : (text : List ℕ) → list_all is_pattern text ≡ true → list_any is_wild text ≡ false → list_all is_name text ≡ true
plain_names [] all plain = refl
plain_names (byte ∷ text) all plain =
    let both = and_parts (is_pattern byte) (list_all is_pattern text) all in
    by (is_name byte) (is_wild byte) both.0 plain (plain_names text both.1)
  where
    by : (name wild : Bool) → (name || wild) ≡ true → (wild || list_any is_wild text) ≡ false
        → (list_any is_wild text ≡ false → list_all is_name text ≡ true) → (name && list_all is_name text) ≡ true
    by true false either plain later = later plain
    by true true either plain later = cc
    by false true either plain later = cc
    by false false either plain later = cc

-- and bytes of a path are those of a directory's name
pub plain_paths : (text : List ℕ) → list_all is_path text ≡ true → list_any is_wild text ≡ false → list_all is_plain_path text ≡ true
plain_paths [] all plain = refl
plain_paths (byte ∷ text) all plain =
    let both = and_parts (is_path byte) (list_all is_path text) all in
    by (is_name byte) (is_wild byte) (byte == 46) both.0 plain (plain_paths text both.1)
  where
    by : (name wild point : Bool) → (name || wild || point) ≡ true → (wild || list_any is_wild text) ≡ false
        → (list_any is_wild text ≡ false → list_all is_plain_path text ≡ true) → ((name || point) && list_all is_plain_path text) ≡ true
    by true false point either plain later = later plain
    by false false true either plain later = later plain
    by false false false either plain later = cc
    by true true point either plain later = cc
    by false true point either plain later = cc

-- the parts of a directory's name
is_point : ℕ → Bool
is_point byte = byte == 46

point_upper : (byte : ℕ) → is_point (to_ascii_uppercase byte) ≡ is_point byte
unfolding is_point
point_upper byte = by (to_ascii_uppercase byte == 46) refl (byte == 46) refl
  where
    by : (a : Bool) → (to_ascii_uppercase byte == 46) ≡ a → (b : Bool) → (byte == 46) ≡ b → a ≡ b
    by true up true is = refl
    by false up false is = refl
    by true up false is = grind (arith, nat_tests)
    by false up true is = grind (arith, nat_tests)

onto_upper : (byte : ℕ) (parts : List (List ℕ)) → onto_first (to_ascii_uppercase byte) (map up parts) ≡ map up (onto_first byte parts)
onto_upper byte [] = refl
onto_upper byte (part ∷ parts) = refl

split_upper : (text : List ℕ) → slice_split is_point (up text) ≡ map up (slice_split is_point text)
split_upper [] = refl
split_upper (byte ∷ text) = rw (point_upper byte, split_upper text) (by (is_point byte))
  where
    by : (test : Bool) → cond test ([] ∷ map up (slice_split is_point text)) (onto_first (to_ascii_uppercase byte) (map up (slice_split is_point text)))
        ≡ map up (cond test ([] ∷ slice_split is_point text) (onto_first byte (slice_split is_point text)))
    by true = refl
    by false = onto_upper byte (slice_split is_point text)

onto_names : (byte : ℕ) (parts : List (List ℕ)) → is_name byte ≡ true → list_all (list_all is_name) parts ≡ true
    → list_all (list_all is_name) (onto_first byte parts) ≡ true
onto_names byte [] is all = rw is refl
onto_names byte (part ∷ parts) is all = rw is all

names_of_paths : (text : List ℕ) → list_all is_plain_path text ≡ true → list_all (list_all is_name) (slice_split is_point text) ≡ true
unfolding is_point
names_of_paths [] all = refl
names_of_paths (byte ∷ text) all =
    let both = and_parts (is_plain_path byte) (list_all is_plain_path text) all in
    by (byte == 46) refl both.0 (names_of_paths text both.1)
  where
    by : (test : Bool) → (byte == 46) ≡ test → (is_name byte || (byte == 46)) ≡ true
        → list_all (list_all is_name) (slice_split is_point text) ≡ true
        → list_all (list_all is_name) (cond test ([] ∷ slice_split is_point text) (onto_first byte (slice_split is_point text))) ≡ true
    by true point either all = all
    by false point either all =
        onto_names byte (slice_split is_point text) (only_name (is_name byte) (byte == 46) point either) all
      where
        only_name : (a b : Bool) → b ≡ false → (a || b) ≡ true → a ≡ true
        only_name true b point either = refl
        only_name false b point either = cc

upper_parts : (parts : List (List ℕ)) → list_all (λ part. nat_lt 0 (length part)) parts ≡ true → list_all (list_all is_name) parts ≡ true
    → list_all (λ part. nat_lt 0 (length part) && is_upper_name part) (map up parts) ≡ true
upper_parts [] some names = refl
upper_parts (part ∷ parts) some names =
    let first = and_parts (nat_lt 0 (length part)) (list_all (λ part. nat_lt 0 (length part)) parts) some in
    let second = and_parts (list_all is_name part) (list_all (list_all is_name) parts) names in
    let size : nat_lt 0 (length (up part)) ≡ true = ap (nat_lt 0) (length-map part to_ascii_uppercase) ∙ first.0 in
    and_from (nat_lt 0 (length (up part)) && is_upper_name (up part)) _
    (and_from (nat_lt 0 (length (up part))) (is_upper_name (up part)) size (upper_name part second.0))
    (upper_parts parts first.1 second.1)

pub upper_directory : (text : List ℕ) → length text ≤ NAME_LIMIT → list_all is_plain_path text ≡ true → are_parts text ≡ true
    → is_directory_name (up text) ≡ true
unfolding is_point
upper_directory text short paths parts =
    let size = length-map text to_ascii_uppercase in
    let fits : nat_le (length (up text)) NAME_LIMIT ≡ true = grind (arith, nat_tests) in
    and_from (nat_le (length (up text)) NAME_LIMIT) _ fits
    (subst (λ (it : List (List ℕ)). list_all (λ part. nat_lt 0 (length part) && is_upper_name part) it ≡ true) (sym (split_upper text))
    (upper_parts (slice_split is_point text) parts (names_of_paths text paths)))
