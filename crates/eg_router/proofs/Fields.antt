-- What is in a field of the configuration is read as what it was written for.
use Rattle.std.proofs.Common.{◌≡◌, ◌<◌, ◌≤◌, ℕ, ◌==◌, ◌+◌, Bool, true, false, not, if◌then◌else◌, List, [], ◌∷◌, ◌++◌, codes, decimal, length, map, take, Option, None, Some, refl, ap, arith, sym, subst, ◌∙◌, length-append}
use Rattle.std.specs.Prelude.{is_some, option_map}
use Rattle.std.specs.Char.{is_ascii_digit, to_ascii_uppercase}
use Rattle.std.specs.List.{flat_map, list_all}
use Rattle.std.specs.Net.Grammar.{IsDotted}
use Rattle.std.specs.Str.{bytes_eq}
use Rattle.std.proofs.lemmas.Bool.{and_parts}
use Rattle.std.proofs.lemmas.Bool.Decides.{nat_tests}
use Rattle.std.proofs.lemmas.List.{take_all}
use Rattle.cm_lists.proofs.Digits.{is_written}
use Rattle.cm_lists.proofs.Quantifiers.{all_append, all_weaker}
use Rattle.cm_lists.proofs.Texts.{bytes_eq-true, bytes_eq_itself}
use Rattle.cm_net.proofs.Sizes.{octet_fits}
use Rattle.cm_net.proofs.TextValues.{ipv4_has_no_value}
use Rattle.cm_net.specs.Values.{ipv4_value}
use Rattle.cm_text.specs.declared.name.TheConstants.{NAME_LIMIT}
use Rattle.cm_fields.specs.Quoted.{unquoted}
use Rattle.cm_hooks.specs.Meanings.{IsYes}
use Rattle.cm_hooks.specs.declared.answer.Answer.TheVariants.{Yes}
use Rattle.eg_router.specs.Configuration.{quoted_byte}
use Rattle.eg_router.specs.InterfaceLaws.{typed_parts}
use Rattle.eg_router.specs.Interfaces.{is_capital, is_interface_name, is_typed_name}
use Rattle.eg_router.specs.Rules.{address_verdict, no_address}

-- a value is there where it is seen as another
pub is_some_view : {A B : Type 0} (view : A → B) (got : Option A) → is_some (option_map view got) ≡ is_some got
is_some_view view None = refl
is_some_view view (Some value) = refl

-- a byte that is no quote is one byte
plain : (byte : ℕ) (more : List ℕ) → (byte == 34) ≡ false → unquoted (byte ∷ more) ≡ byte ∷ unquoted more
plain byte [] is = refl
plain byte (next ∷ more) is = rw is refl

abbrev is_plain : ℕ → Bool
is_plain byte = not (byte == 34)

all_plain : (text : List ℕ) → list_all is_plain text ≡ true → unquoted text ≡ text
all_plain [] all = refl
all_plain (byte ∷ more) all =
    let parts = and_parts (is_plain byte) _ all in
    let here = parts.0 in
    plain byte more (grind (arith, nat_tests)) ∙ ap (λ (others : List ℕ). byte ∷ others) (all_plain more parts.1)

octet_plain : (n : ℕ) → n < 256 → list_all is_plain (decimal n) ≡ true
octet_plain n few = all_weaker is_ascii_digit is_plain digit (decimal n) (is_written n (omega arith)).digits
  where
    digit : (byte : ℕ) → is_ascii_digit byte ≡ true → is_plain byte ≡ true
    digit byte is = grind (arith, nat_tests)

-- with one more octet
more_octets : (front : List ℕ) (size n : ℕ) → n < 256 → (list_all is_plain front ≡ true) × (length front ≤ size)
    → (list_all is_plain (front ++ codes "." ++ decimal n) ≡ true) × (length (front ++ codes "." ++ decimal n) ≤ size + 4)
more_octets front size n few (all, fits) =
    let most = octet_fits n few in
    let first = length-append front (codes ".") in
    let second = length-append (front ++ codes ".") (decimal n) in
    let one : length (codes ".") ≡ 1 = refl in
    let pointed = all_append is_plain front (codes ".") all refl in
    (all_append is_plain (front ++ codes ".") (decimal n) pointed (octet_plain n few), omega arith)

-- an address has at most 15 bytes, of which none is a quote
dotted_is : (text octets : List ℕ) → IsDotted text octets → take NAME_LIMIT (unquoted text) ≡ text
dotted_is text octets is =
    let one = decimal is.a in
    let two = one ++ codes "." ++ decimal is.b in
    let three = two ++ codes "." ++ decimal is.c in
    let first = more_octets one 3 is.b is.fit.1 (octet_plain is.a is.fit.0, octet_fits is.a is.fit.0) in
    let second = more_octets two 7 is.c is.fit.2 first in
    let all = more_octets three 11 is.d is.fit.3 second in
    let size = all.1 in
    rw is.spelled (ap (take NAME_LIMIT) (all_plain _ all.0) ∙ take_all NAME_LIMIT _ (omega (arith, size)))

pub address_is : (text : List ℕ) → IsYes (address_verdict text) → take NAME_LIMIT (unquoted text) ≡ text
unfolding address_verdict no_address
address_is text taken = by (bytes_eq (take NAME_LIMIT (unquoted text)) text) refl
  where
    by : (same : Bool) → bytes_eq (take NAME_LIMIT (unquoted text)) text ≡ same → take NAME_LIMIT (unquoted text) ≡ text
    by true is = bytes_eq-true _ text is
    by false is =
        let none : None ≡ ipv4_value text = ipv4_has_no_value text (λ address dotted.
        let same = dotted_is text _ dotted in
        let equal : bytes_eq (take NAME_LIMIT (unquoted text)) text ≡ true = rw same (bytes_eq_itself text) in cc) in
        absurd (subst (λ (value : Option (List ℕ)). IsYes (if is_some value then Yes 0 else no_address)) (sym none) taken)

pub text_is : (text : List ℕ) → unquoted (flat_map quoted_byte text) ≡ text
unfolding quoted_byte
text_is [] = refl
text_is (byte ∷ more) = by (byte == 34) refl (text_is more)
  where
    by : (is_quote : Bool) → (byte == 34) ≡ is_quote → unquoted (flat_map quoted_byte more) ≡ more
        → unquoted ((if is_quote then 34 ∷ 34 ∷ [] else byte ∷ []) ++ flat_map quoted_byte more) ≡ byte ∷ more
    by true is rest =
        let same : byte ≡ 34 = grind (arith, nat_tests) in
        ap (λ (others : List ℕ). 34 ∷ others) rest ∙ ap (λ (first : ℕ). first ∷ more) (sym same)
    by false is rest = plain byte (flat_map quoted_byte more) is ∙ ap (λ (others : List ℕ). byte ∷ others) rest

-- a byte of a name is in upper case
same_byte : (byte : ℕ) → is_capital byte ≡ true → to_ascii_uppercase byte ≡ byte
same_byte byte is = grind (arith, nat_tests)

pub same_bytes : (name : List ℕ) → list_all is_capital name ≡ true → map to_ascii_uppercase name ≡ name
same_bytes [] all = refl
same_bytes (byte ∷ more) all =
    let parts = and_parts (is_capital byte) (list_all is_capital more) all in
    rw (same_byte byte parts.0, same_bytes more parts.1) refl

pub name_is : (name : List ℕ) → is_interface_name name ≡ true → map to_ascii_uppercase (take NAME_LIMIT name) ≡ name
name_is name is =
    let parts = and_parts (is_typed_name name) _ is in
    let (begins, short, bytes) = typed_parts name parts.0 in
    ap (map to_ascii_uppercase) (take_all NAME_LIMIT name short) ∙ same_bytes name parts.1
