-- A text is a MAC address exactly where the bytes are in their places.
use Rattle.std.proofs.Common.{◌≡◌, ℕ, zero, suc, ◌<◌, ◌%◌, ◌==◌, ◌⊎◌, ◌&&◌, ◌||◌, nat_lt, Bool, true, false, cond, inl, inr, List, length, slice_index, is_some, Option, None, Some, refl, arith}
use Rattle.std.specs.Char.{digit_value}
use Rattle.std.proofs.lemmas.Bool.{and_from, and_parts}
use Rattle.std.proofs.lemmas.Bool.Decides.{nat_tests}
use borrow.Author.Count.{below_more, below_none}
use Rattle.cm_net.specs.Mac.{IsMacText, colon, hyphen}
use Rattle.cm_net.specs.MacShape.{FitsPlace, HasMacShape}
use Rattle.cm_net.specs.Reads.{Reads}
use Rattle.cm_net.specs.declared.mac.Mac.{Mac}
use Rattle.cm_net.specs.declared.mac.TheConstants.{MAC_TEXT_SIZE}
use Rattle.cm_net.proofs.MacTexts.{pairs_of_shape, shape_of_pairs}
use Rattle.cm_speech.specs.Address.{all_places, fits, is_mac}

place_fits : (text : List ℕ) (place : ℕ) → fits text place ≡ true → FitsPlace text place
place_fits text place is = by (place % 3 == 2) refl is
  where
    by : (b : Bool) → (place % 3 == 2) ≡ b
        → cond b (slice_index text place == slice_index text 2) (nat_lt (digit_value (slice_index text place)) 16) ≡ true
        → FitsPlace text place
    by true third is = record {
      divided = λ _. grind (arith, nat_tests, is);
      digit = λ other. absurd (other (grind (arith, nat_tests, third)));
    }
    by false other is = record {
      divided = λ third. absurd (let not_third = other in grind (arith, nat_tests, not_third, third));
      digit = λ _. grind (arith, nat_tests, is);
    }

fits_place : (text : List ℕ) (place : ℕ) → FitsPlace text place → fits text place ≡ true
fits_place text place fit = by (place % 3 == 2) refl
  where
    by : (b : Bool) → (place % 3 == 2) ≡ b
        → cond b (slice_index text place == slice_index text 2) (nat_lt (digit_value (slice_index text place)) 16) ≡ true
    by true third =
        let same = fit.divided (grind (arith, nat_tests, third)) in grind (arith, nat_tests, same)
    by false other =
        let digit = fit.digit (λ third. grind (arith, nat_tests, other, third)) in grind (arith, nat_tests, digit)

all_fit : (text : List ℕ) (count : ℕ) → all_places (fits text) count ≡ true
    → (place : ℕ) → place < count → FitsPlace text place
all_fit text zero all = below_none (FitsPlace text)
all_fit text (suc count) all =
    let parts = and_parts (all_places (fits text) count) (fits text count) all in
    λ place within. below_more (FitsPlace text) count (all_fit text count parts.0) (place_fits text count parts.1) place (omega (arith, within))

fit_all : (text : List ℕ) (count : ℕ) → ((place : ℕ) → place < count → FitsPlace text place)
    → all_places (fits text) count ≡ true
fit_all text zero each = refl
fit_all text (suc count) each =
    and_from (all_places (fits text) count) (fits text count)
    (fit_all text count (λ place within. each place (omega (arith, within))))
    (fits_place text count (each count (omega arith)))

abbrev is_divided : List ℕ → Bool
is_divided text = slice_index text 2 == hyphen || slice_index text 2 == colon

shape_is_mac : (text : List ℕ) → HasMacShape text → is_mac text ≡ true
unfolding is_mac
shape_is_mac text shape =
    let size = shape.size in
    let divides = shape.divides in
    let sized : (length text == MAC_TEXT_SIZE) ≡ true = grind (arith, nat_tests, size) in
    let divided : is_divided text ≡ true = divider divides in
    and_from (length text == MAC_TEXT_SIZE && is_divided text) (all_places (fits text) MAC_TEXT_SIZE)
    (and_from (length text == MAC_TEXT_SIZE) (is_divided text) sized divided)
    (fit_all text MAC_TEXT_SIZE shape.placed)
  where
    divider : (slice_index text 2 ≡ hyphen) ⊎ (slice_index text 2 ≡ colon) → is_divided text ≡ true
    divider is = grind (arith, nat_tests, is)

which : (byte : ℕ) → (byte == hyphen || byte == colon) ≡ true → (byte ≡ hyphen) ⊎ (byte ≡ colon)
which byte is = by (byte == hyphen) refl is
  where
    by : (b : Bool) → (byte == hyphen) ≡ b → (b || byte == colon) ≡ true → (byte ≡ hyphen) ⊎ (byte ≡ colon)
    by true first either = inl (grind (arith, nat_tests, first))
    by false first either = inr (grind (arith, nat_tests, either))

mac_is_shape : (text : List ℕ) → is_mac text ≡ true → HasMacShape text
unfolding is_mac
mac_is_shape text is =
    let parts = and_parts (length text == MAC_TEXT_SIZE && is_divided text) (all_places (fits text) MAC_TEXT_SIZE) is in
    let front = and_parts (length text == MAC_TEXT_SIZE) (is_divided text) parts.0 in
    let sized : (length text == MAC_TEXT_SIZE) ≡ true = front.0 in
    let divided : is_divided text ≡ true = front.1 in
    record {
      size = grind (arith, nat_tests, sized);
      divides = which (slice_index text 2) divided;
      placed = all_fit text MAC_TEXT_SIZE parts.1;
    }

-- so is what is read of it
pub mac_read : (text : List ℕ) (result : Option Mac) → Reads IsMacText text result → is_some result ≡ is_mac text
mac_read text (Some mac) writes = rw (shape_is_mac text (shape_of_pairs text mac.octets writes)) refl
mac_read text None none = by (is_mac text) refl
  where
    by : (b : Bool) → is_mac text ≡ b → false ≡ b
    by true is = absurd (none (record { octets = _ }) (pairs_of_shape text (mac_is_shape text is)))
    by false is = refl
