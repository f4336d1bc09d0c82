-- Names and notes are ASCII.
-- The &str of tested bytes is str::from_utf8, after a call that requires IsAscii.
use Rattle.std.proofs.Common.{◌≡◌, ℕ, zero, suc, ◌<◌, ◌==◌, Bool, true, ◌&&◌, not, nat_lt, nat_le, List, [], ◌∷◌, length, refl, arith}
use Rattle.std.specs.Char.{is_ascii_lowercase}
use Rattle.std.specs.List.{list_all, onto_first, slice_split}
use Rattle.std.specs.Str.{IsAscii}
use Rattle.std.proofs.lemmas.Bool.{and_from, and_parts, eqb-true}
use Rattle.std.proofs.lemmas.Bool.Decides.{nat_tests}
use Rattle.std.proofs.lemmas.List.Splits.{slice_split-cons_no, slice_split-cons_yes}
use Rattle.cm_lists.proofs.Ascii.{IsAscii_of_all}
use Rattle.cm_lists.proofs.Bools.{by_test}
use Rattle.cm_lists.proofs.Quantifiers.{all_weaker}
use Rattle.cm_text.specs.declared.name.TheConstants.{NAME_LIMIT}
use Rattle.cm_text.specs.Bytes.{is_name, is_text}
use Rattle.cm_text.proofs.Ascii.{name_byte_is_ascii}
use Rattle.cm_files.specs.Catalogue.{is_directory_name, is_upper_name}
use Rattle.cm_files.specs.LogicalName.{is_logical_name}
use Rattle.ex_image.specs.Fields.{is_logical, is_note}
use Rattle.ex_store.specs.WellFormed.{is_file_name, is_file_type}

text_byte_is_ascii : (byte : ℕ) → is_text byte ≡ true → byte < 128
unfolding is_text
text_byte_is_ascii byte is = grind (arith, nat_tests)

upper_is_ascii : (name : List ℕ) → is_upper_name name ≡ true → IsAscii name
upper_is_ascii name is =
    IsAscii_of_all (λ byte. is_name byte && not (is_ascii_lowercase byte))
    (λ byte one. name_byte_is_ascii byte (and_parts (is_name byte) (not (is_ascii_lowercase byte)) one).0) name is

pub file_name_is_ascii : (name : List ℕ) → is_file_name name ≡ true → IsAscii name
file_name_is_ascii name is =
    upper_is_ascii name
    (and_parts (nat_lt 0 (length name) && nat_le (length name) NAME_LIMIT) (is_upper_name name) is).1

pub file_type_is_ascii : (kind : List ℕ) → is_file_type kind ≡ true → IsAscii kind
file_type_is_ascii kind is = upper_is_ascii kind (and_parts (nat_le (length kind) NAME_LIMIT) (is_upper_name kind) is).1

pub logical_is_ascii : (name : List ℕ) → is_logical name ≡ true → IsAscii name
logical_is_ascii name is = upper_is_ascii name (and_parts (is_logical_name name) (is_upper_name name) is).1

pub note_is_ascii : (note : List ℕ) → is_note note ≡ true → IsAscii note
note_is_ascii note is =
    IsAscii_of_all is_text text_byte_is_ascii note
    (and_parts (nat_le (length note) NAME_LIMIT) (list_all is_text note) is).1

-- the first byte of a part, and those after it
first_of_parts : (byte : ℕ) (parts : List (List ℕ)) → list_all is_upper_name (onto_first byte parts) ≡ true
    → (is_name byte ≡ true) × (list_all is_upper_name parts ≡ true)
first_of_parts byte [] all =
    let first = (and_parts (is_upper_name (byte ∷ [])) true all).0 in
    let passes = (and_parts (is_name byte && not (is_ascii_lowercase byte)) true first).0 in
    ((and_parts (is_name byte) (not (is_ascii_lowercase byte)) passes).0, refl)
first_of_parts byte (part ∷ parts) all =
    let both = and_parts (is_upper_name (byte ∷ part)) (list_all is_upper_name parts) all in
    let first = and_parts (is_name byte && not (is_ascii_lowercase byte)) (is_upper_name part) both.0 in
    let name = and_parts (is_name byte) (not (is_ascii_lowercase byte)) first.0 in
    (name.0, and_from (is_upper_name part) (list_all is_upper_name parts) first.1 both.1)

-- the same of a text that is split at its points
first_of_split : (byte : ℕ) (more : List ℕ)
    → list_all is_upper_name (slice_split (λ b. b == 46) (byte ∷ more)) ≡ true
    → (byte < 128) × (list_all is_upper_name (slice_split (λ b. b == 46) more) ≡ true)
first_of_split byte more all =
    by_test _ (byte == 46)
    (λ point.
    let here = rw (slice_split-cons_yes (λ b. b == 46) byte more point) at all in
    (omega (arith, eqb-true byte 46 point), here))
    (λ other.
    let here = rw (slice_split-cons_no (λ b. b == 46) byte more other) at all in
    let first = first_of_parts byte (slice_split (λ b. b == 46) more) here in
    (name_byte_is_ascii byte first.0, first.1))

parts_are_ascii : (name : List ℕ) → list_all is_upper_name (slice_split (λ b. b == 46) name) ≡ true → IsAscii name
parts_are_ascii [] all i = omega arith
parts_are_ascii (byte ∷ more) all zero = (first_of_split byte more all).0
parts_are_ascii (byte ∷ more) all (suc i) = parts_are_ascii more (first_of_split byte more all).1 i

pub directory_is_ascii : (name : List ℕ) → is_directory_name name ≡ true → IsAscii name
directory_is_ascii name is =
    let is_part : List ℕ → Bool = λ part. nat_lt 0 (length part) && is_upper_name part in
    let parts =
    (and_parts (nat_le (length name) NAME_LIMIT) (list_all is_part (slice_split (λ b. b == 46) name)) is).1 in
    parts_are_ascii name
    (all_weaker is_part is_upper_name (λ part one. (and_parts (nat_lt 0 (length part)) (is_upper_name part) one).1)
    (slice_split (λ b. b == 46) name) parts)
